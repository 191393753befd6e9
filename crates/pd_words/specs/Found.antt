-- What the library for command lines finds, and the task that it comes to.
use Rattle.std.specs.Prelude.{List, codes, bytes_eq, Option, None, option_and_then, option_map, if◌then◌else◌}
use Rattle.clap.specs.Words.{Row, Text, first_of}
use Rattle.clap.specs.declared.error.kind.ErrorKind.{ErrorKind}
use Rattle.clap.specs.declared.error.kind.ErrorKind.TheVariants.{OutOfMemory}
use Rattle.pd_words.specs.Tasks.{Asked, check, decode, run}
use Rattle.pd_words.specs.declared.task.WordsFault.{WordsFault}
use Rattle.pd_words.specs.declared.task.WordsFault.TheVariants as fault

-- ---- a subcommand, by the values of its words

abbrev pub run_by : List Row → Option Asked
run_by rows = option_and_then (λ scenario. option_map (run scenario) (first_of (codes "EDITS") rows)) (first_of (codes "SCENARIO") rows)

abbrev pub check_by : List Row → Option Asked
check_by rows = option_map check (first_of (codes "SCENARIO") rows)

abbrev pub decode_by : List Row → Option Asked
decode_by rows = option_map decode (first_of (codes "SYMBOLS") rows)

abbrev pub task_by : Text × List Row → Option Asked
task_by found = if bytes_eq found.0 (codes "run") then run_by found.1
    else (if bytes_eq found.0 (codes "check") then check_by found.1
    else (if bytes_eq found.0 (codes "decode") then decode_by found.1 else None))

-- ---- a refusal

-- why nothing is asked for, where the words are refused
abbrev pub fault_by : ErrorKind → WordsFault
fault_by OutOfMemory = fault.Memory
fault_by _ = fault.Usage
