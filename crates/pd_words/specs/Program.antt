-- The program's command line: `pdbench run SCENARIO EDITS`, `pdbench check SCENARIO` and `pdbench decode SYMBOLS`.
use Rattle.std.specs.Prelude.{true, codes, Some}
use Rattle.clap.specs.Words.{App, Rule, Text, new_app, new_rule, with_rule, with_subcommand}
use Rattle.clap.specs.declared.builder.action.ArgAction.TheVariants.{Set}

-- a word that has to be there
abbrev pub required : Text → Rule
required name = record (new_rule name) { required = true; action = Some Set }

-- a command with one word more behind it
abbrev pub with_word : App → Text → App
with_word command word = with_rule command (required word)

abbrev pub run : App
run = with_word (with_word (new_app (codes "run")) (codes "SCENARIO")) (codes "EDITS")

abbrev pub check : App
check = with_word (new_app (codes "check")) (codes "SCENARIO")

abbrev pub decode : App
decode = with_word (new_app (codes "decode")) (codes "SYMBOLS")

unfoldable pub program : App
program = with_subcommand (with_subcommand (with_subcommand (new_app (codes "pdbench")) run.top) check.top) decode.top
