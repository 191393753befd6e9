-- The task of what clap's definitions find in the words of a command line.
use Rattle.std.specs.Prelude.{List, [], ◌∷◌, Option, None, option_and_then}
use Rattle.clap.specs.Words.{Kinds, Row, Text, fault_of, subcommand_of}
use Rattle.pd_words.specs.Program.{program}
use Rattle.pd_words.specs.Found.{task_by}
use Rattle.pd_words.specs.Tasks.{Asked}

-- where no fault is found, that of the subcommand that the words name
abbrev pub task_unless : Kinds → Option (Text × List Row) → Option Asked
task_unless [] found = option_and_then task_by found
task_unless (kind ∷ kinds) found = None

unfoldable pub found_task : List Text → Option Asked
found_task words = task_unless (fault_of program words) (subcommand_of program words)
