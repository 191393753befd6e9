-- The words that a command, what is shown and a revision are written by: docs/FORMATS.md, "Edit script".
use Rattle.std.specs.Prelude.{ℕ, List, codes, Option, Some, None, bytes_eq, if◌then◌else◌}
use Rattle.pd_setup.specs.declared.sink.SinkRevision.{SinkRevision}
use Rattle.pd_setup.specs.declared.sink.SinkRevision.TheVariants.{Revision2, Revision3}
use Rattle.pd_edit_lines.specs.declared.keywords.Command.{Command}
use Rattle.pd_edit_lines.specs.declared.keywords.Command.TheVariants as command
use Rattle.pd_edit_lines.specs.declared.keywords.ShowWord.{ShowWord}
use Rattle.pd_edit_lines.specs.declared.keywords.ShowWord.TheVariants as shown

-- the word that a command begins with
abbrev pub command_word : List ℕ → Option Command
command_word word =
    if bytes_eq word (codes "insert") then Some command.Insert
    else if bytes_eq word (codes "remove") then Some command.Remove
    else if bytes_eq word (codes "move") then Some command.Move
    else if bytes_eq word (codes "change") then Some command.Change
    else if bytes_eq word (codes "cable") then Some command.Cable
    else if bytes_eq word (codes "sink") then Some command.Sink
    else if bytes_eq word (codes "caps") then Some command.Caps
    else if bytes_eq word (codes "floor") then Some command.Floor
    else if bytes_eq word (codes "budget") then Some command.Budget
    else if bytes_eq word (codes "end") then Some command.End
    else if bytes_eq word (codes "show") then Some command.Show
    else None

-- the word that what is to be shown begins with
abbrev pub show_word : List ℕ → Option ShowWord
show_word word =
    if bytes_eq word (codes "transcript") then Some shown.Transcript
    else if bytes_eq word (codes "contracts") then Some shown.Contracts
    else if bytes_eq word (codes "faults") then Some shown.Faults
    else if bytes_eq word (codes "margins") then Some shown.Margins
    else None

-- the revision of a sink
abbrev pub revision_word : List ℕ → Option SinkRevision
revision_word word =
    if bytes_eq word (codes "rev2") then Some Revision2
    else if bytes_eq word (codes "rev3") then Some Revision3
    else None
