-- The command line of `pdlab`: its commands, each with its words and options.
use Rattle.std.specs.Prelude.{ℕ, true, false, List, [], ◌∷◌, codes, Some}
use Rattle.clap.specs.Words.{App, Rule, Shape, Text, new_rule, with_subcommand}
use Rattle.clap.specs.Simple.{new_shape}
use Rattle.clap.specs.declared.builder.action.ArgAction.TheVariants.{Set, SetTrue, Append}

-- ---- what stands behind a command's name

-- a word that has to be there, one that may be there, and one word or more
abbrev pub must : Text → Rule
must name = record (new_rule name) { required = true; action = Some Set }

abbrev pub may : Text → Rule
may name = record (new_rule name) { action = Some Set }

abbrev pub several : Text → Rule
several name = record (new_rule name) { required = true; action = Some Append }

-- an option with a word behind it, as `--port 2` or `--port=2`, one of a letter, as `-o FILE`, one that is alone, and one that is alone
-- and may be its letter, too, as `-v`
abbrev pub value : Text → Rule
value name = record (new_rule name) { long = Some name; action = Some Set }

-- the same, which stands once or more
abbrev pub values : Text → Rule
values name = record (new_rule name) { long = Some name; required = true; action = Some Append }

-- the same, which may be left out or stand several times
abbrev pub any : Text → Rule
any name = record (new_rule name) { long = Some name; action = Some Append }

abbrev pub letter : ℕ → Text → Rule
letter code name = record (new_rule name) { short = Some code; action = Some Set }

abbrev pub flag : Text → Rule
flag name = record (new_rule name) { long = Some name; action = Some SetTrue }

abbrev pub switch : ℕ → Text → Rule
switch code name = record (new_rule name) { short = Some code; long = Some name; action = Some SetTrue }

-- ---- the commands

abbrev pub command : Text → List Rule → Shape
command name rules = record (new_shape name) { rules = rules }

abbrev pub live : Shape
live = command (codes "live") (must (codes "SCENARIO") ∷ [])

-- a refused line of EDITS is passed over
abbrev pub keep_going : Rule
keep_going = flag (codes "keep-going")

-- the file that is written, by `-o`
abbrev pub out : Rule
out = letter 111 (codes "FILE")

abbrev pub show : Shape
show = command (codes "show") (must (codes "SCENARIO") ∷ may (codes "EDITS") ∷ value (codes "port") ∷ value (codes "from")
    ∷ value (codes "to") ∷ flag (codes "no-goodcrc") ∷ flag (codes "codes") ∷ flag (codes "json") ∷ flag (codes "csv") ∷ out
    ∷ keep_going ∷ [])

-- behind the scenario stand EDITS, PORT and AT, of which the first and the last may be left out
abbrev pub why : Shape
why = command (codes "why") (must (codes "SCENARIO") ∷ must (codes "PORT") ∷ may (codes "SECOND") ∷ may (codes "THIRD")
    ∷ flag (codes "json") ∷ keep_going ∷ [])

abbrev pub guarantee : Shape
guarantee = command (codes "guarantee") (must (codes "SCENARIO") ∷ may (codes "EDITS") ∷ flag (codes "json") ∷ keep_going ∷ [])

abbrev pub sweep : Shape
sweep = command (codes "sweep") (must (codes "SCENARIO") ∷ may (codes "EDITS") ∷ value (codes "port") ∷ value (codes "from")
    ∷ value (codes "to") ∷ value (codes "kind") ∷ flag (codes "damage") ∷ value (codes "in-a-row") ∷ value (codes "any")
    ∷ value (codes "most") ∷ flag (codes "changed") ∷ value (codes "by") ∷ value (codes "part") ∷ value (codes "reserve")
    ∷ value (codes "fail-on") ∷ value (codes "noise") ∷ value (codes "runs") ∷ value (codes "run") ∷ value (codes "seed")
    ∷ flag (codes "as-edits") ∷ flag (codes "json") ∷ flag (codes "csv") ∷ keep_going ∷ [])

abbrev pub vary : Shape
vary = command (codes "vary") (must (codes "SCENARIO") ∷ may (codes "EDITS") ∷ values (codes "set") ∷ any (codes "where")
    ∷ value (codes "tell") ∷ value (codes "draw") ∷ flag (codes "json") ∷ flag (codes "csv") ∷ keep_going ∷ [])

abbrev pub test : Shape
test = command (codes "test") (several (codes "SCRIPT") ∷ flag (codes "json") ∷ switch 118 (codes "verbose") ∷ value (codes "junit") ∷ [])

abbrev pub draw : Shape
draw = command (codes "draw") (must (codes "SCENARIO") ∷ may (codes "EDITS") ∷ value (codes "port") ∷ value (codes "from")
    ∷ value (codes "to") ∷ value (codes "width") ∷ flag (codes "holds") ∷ out ∷ keep_going ∷ [])

abbrev pub page : Shape
page = command (codes "page") (must (codes "SCENARIO") ∷ may (codes "EDITS") ∷ value (codes "page") ∷ out ∷ keep_going ∷ [])

abbrev pub explain : Shape
explain = command (codes "explain") (must (codes "SCENARIO") ∷ may (codes "EDITS") ∷ flag (codes "json") ∷ flag (codes "strict") ∷ [])

abbrev pub decode : Shape
decode = command (codes "decode") (may (codes "FILE") ∷ flag (codes "json") ∷ flag (codes "with-line") ∷ [])

-- a scenario to begin with, of so many ports
abbrev pub new : Shape
new = command (codes "new") (may (codes "PORTS") ∷ [])

abbrev pub schema : Shape
schema = command (codes "schema") []

-- beside these clap has `help`, `--help` and `-h`, `--version` and `-V`
unfoldable pub lab : App
lab = record {
  top = record (new_shape (codes "pdlab")) { is_leaf = false; has_version = true };
  subs = live ∷ show ∷ why ∷ guarantee ∷ sweep ∷ vary ∷ test ∷ draw ∷ page ∷ explain ∷ decode ∷ new ∷ schema ∷ [];
}

abbrev pub with_version : App → App
with_version app = record app { top = record app.top { has_version = true } }

-- commands more, in this order
unfoldable pub with_commands : App → List Shape → App
with_commands app [] = app
with_commands app (s ∷ more) = with_commands (with_subcommand app s) more
