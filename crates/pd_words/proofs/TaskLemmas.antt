-- From what clap says of a command line to its task.
use Rattle.std.proofs.Common.{◌∙◌, ◌≡◌, List, [], ◌∷◌, true, ap, refl, subst, inl, inr, Option, None, Some, option_map}
use Rattle.std.specs.Prelude.{option_and_then, IfOk, IfErr}
use Rattle.std.specs.Option.{ok_or}
use Rattle.clap.specs.Words.{App, HasKind, HasMatchesOf, Kinds, Row, Text, fault_of, is_simple, is_simple_and_free, kind_of, subcommand_of}
use Rattle.clap.specs.Words.{subcommand_rows_of}
use Rattle.clap.specs.declared.error.Error.{Error}
use Rattle.clap.specs.declared.parser.matches.ArgMatches.{ArgMatches}
use Rattle.pd_words.specs.Program.{program}
use Rattle.pd_words.specs.Found.{fault_by, task_by}
use Rattle.pd_words.specs.Tasks.{Asked, asked}
use Rattle.pd_words.specs.declared.task.Task.{Task}
use Rattle.pd_words.specs.declared.task.WordsFault.TheVariants.{Usage}
use Rattle.pd_words.proofs.FoundTask.{found_task, task_unless}

-- clap tells all of such a command
pub program_is_simple : is_simple program ≡ true
unfolding program
program_is_simple = refl

pub program_is_simple_and_free : is_simple_and_free program ≡ true
unfolding program
program_is_simple_and_free = refl

-- words that clap refuses, but for want of memory, have no task
refused_by : (kinds : Kinds) (found : Option (Text × List Row)) (e : Error) → HasKind kinds e → fault_by (kind_of e) ≡ Usage
    → task_unless kinds found ≡ None
refused_by [] found e (inl memory) usage = cc
refused_by [] found e (inr none) usage = absurd none
refused_by (kind ∷ kinds) found e has usage = refl

pub refused : (app : App) (words : List Text) (e : Error) → app ≡ program → (is_simple_and_free app ≡ true → HasKind (fault_of app words) e)
    → fault_by (kind_of e) ≡ Usage → found_task words ≡ None
unfolding found_task
refused app words e is has usage = refused_by (fault_of program words) (subcommand_of program words) e
    (subst (λ a. HasKind (fault_of a words) e) is (has (ap is_simple_and_free is ∙ program_is_simple_and_free))) usage

-- and words that it takes have that of the subcommand that it finds
pub taken : (app : App) (words : List Text) (m : ArgMatches) → app ≡ program → (is_simple_and_free app ≡ true → fault_of app words ≡ [])
    → HasMatchesOf app words m → found_task words ≡ option_and_then task_by (subcommand_rows_of m)
unfolding found_task
taken app words m is clean has =
    let no_fault : fault_of program words ≡ [] =
    subst (λ a. fault_of a words ≡ []) is (clean (ap is_simple_and_free is ∙ program_is_simple_and_free)) in
    let found : subcommand_rows_of m ≡ subcommand_of program words =
    subst (λ a. subcommand_rows_of m ≡ subcommand_of a words) is (has (ap is_simple is ∙ program_is_simple)).1 in
    rw (no_fault, found) refl

-- what is answered for a task that may be there
pub told_ok : (told : Option Asked) (o : Option Task) → told ≡ option_map asked o → IfOk (ok_or o Usage) (λ task. told ≡ Some (asked task))
told_ok told None is = tt
told_ok told (Some task) is = is

pub told_usage : (told : Option Asked) (o : Option Task) → told ≡ option_map asked o
    → IfErr (ok_or o Usage) (λ fault. fault ≡ Usage → told ≡ None)
told_usage told None is = λ _. is
told_usage told (Some task) is = tt
