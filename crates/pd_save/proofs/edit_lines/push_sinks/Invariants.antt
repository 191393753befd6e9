use Rattle.std.proofs.Common.{◌≡◌, ◌++◌, take}
use Rattle.std.specs.List.{flat_map}
use Rattle.pd_save.specs.EditLines.{sink_line}
use Rattle.pd_save.proofs.edit_lines.push_sinks.Given as goal

abbrev pub invariant-loop-sink : goal.invariant-loop-sink
invariant-loop-sink l = l.text.items ≡ l.initial.text.items ++ flat_map sink_line (take l.sink-index l.sinks)
