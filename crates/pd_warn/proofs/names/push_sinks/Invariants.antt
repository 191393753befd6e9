use Rattle.std.proofs.Common.{◌≡◌, ◌++◌, take}
use Rattle.std.specs.List.{flat_map}
use Rattle.pd_warn.specs.Stated.{sink_part}
use Rattle.pd_warn.proofs.names.push_sinks.Given as goal

abbrev pub invariant-loop-sink : goal.invariant-loop-sink
invariant-loop-sink l = l.out.items ≡ l.initial.out.items ++ flat_map (sink_part l.events) (take l.sink-index l.sinks)
