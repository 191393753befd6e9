use Rattle.std.proofs.Common.{◌≡◌, List, Option, None, Some, ap, ap₂, subst}
use Rattle.std.specs.Prelude.{Box, IfOk, option_and_then, option_map, unwrap_or}
use Rattle.std.specs.Box.{box_value}
use Rattle.clap.specs.Words.{Row, Text, found_of, rows_of, subcommand_rows}
use Rattle.clap.specs.declared.parser.matches.SubCommand.{SubCommand}
use Rattle.clap.specs.declared.parser.matches.ArgMatches.TheViews.{out-ArgMatches, out-SubCommand}
use Rattle.pd_words.specs.LabTasks.{asked, asked_by}
use Rattle.pd_words.proofs.lab_words.task_named.Goals as goal

-- the name and what was found behind it are those of the subcommand
named_as : {Z : Type 0} (o : Option (Box SubCommand Z)) (name : Text) (rows : List Row)
    → Some name ≡ option_map (λ b. (out-SubCommand (box_value b)).name.now) o → Some rows ≡ option_map (λ p. p.1) (subcommand_rows o)
    → asked_by (name, rows) ≡ option_and_then asked_by (subcommand_rows o)
named_as None name rows name_is rows_is = cc
named_as (Some b) name rows name_is rows_is = ap₂ (λ (n : Text) (r : List Row). asked_by (n, r))
    (ap (λ (o : Option Text). unwrap_or o name) name_is) (ap (λ (o : Option (List Row)). unwrap_or o rows) rows_is)

pub returns-in-Some-clause-ok : goal.returns-in-Some-clause-ok
returns-in-Some-clause-ok c =
    let same = named_as (out-ArgMatches c.args.matches.now).subcommand c.in-Some.name.now (rows_of (found_of c.in-Some.matches.now))
    c.in-Some.ensures.name c.in-Some.ensures.rows in
    subst (λ found. IfOk c.task_of.result (λ task. found ≡ Some (asked task))) same c.task_of.ensures.ok
