-- What a command line asks for: `pdbench run SCENARIO EDITS`, `pdbench check SCENARIO` and `pdbench decode SYMBOLS`, and no other.
use Rattle.std.specs.Prelude.{ℕ, ◌==◌, Bool, false, List, [], ◌∷◌, codes, bytes_eq, Option, None, Some, option_and_then, option_map}
use Rattle.std.specs.Prelude.{if◌then◌else◌}
use Rattle.pd_words.specs.declared.task.Task.{Task}
use Rattle.pd_words.specs.declared.task.Task.TheVariants as task

abbrev pub Text : Type 0
Text = List ℕ

-- what is asked for: a session over an edit script for a scenario, whether a file has a scenario, or what codes come to
pub data Asked : Type 0 where
  run : Text → Text → Asked
  check : Text → Asked
  decode : Text → Asked

-- the word is no dash alone, but begins with one (45), as flags do
abbrev pub is_dashed : Text → Bool
is_dashed (x ∷ (y ∷ ys)) = x == 45
is_dashed _ = false

-- what the words behind a command's name give it: themselves, where none is dashed; but the first word `--` gives nothing, and behind
-- it a word may be dashed
unfoldable pub given : List Text → Option (List Text)
given [] = Some []
given (word ∷ words) = if bytes_eq word (codes "--") then Some words
    else (if is_dashed word then None else option_map (λ more. word ∷ more) (given words))

-- ---- the commands, by what they are given

abbrev pub run_with : List Text → Option Asked
run_with (scenario ∷ (edits ∷ [])) = Some (run scenario edits)
run_with _ = None

abbrev pub check_with : List Text → Option Asked
check_with (scenario ∷ []) = Some (check scenario)
check_with _ = None

abbrev pub decode_with : List Text → Option Asked
decode_with (symbols ∷ []) = Some (decode symbols)
decode_with _ = None

abbrev pub command_task : Text → List Text → Option Asked
command_task command words = if bytes_eq (codes "run") command then option_and_then run_with (given words)
    else (if bytes_eq (codes "check") command then option_and_then check_with (given words)
    else (if bytes_eq (codes "decode") command then option_and_then decode_with (given words) else None))

-- a line has the program's name, whatever it is, a command's, and what that is given
unfoldable pub task_of : List Text → Option Asked
task_of (name ∷ (command ∷ words)) = command_task command words
task_of _ = None

-- what a task asks for, by its texts
abbrev pub asked : Task → Asked
asked (task.Run scenario edits) = run scenario.now edits.now
asked (task.Check scenario) = check scenario.now
asked (task.Decode symbols) = decode symbols.now
