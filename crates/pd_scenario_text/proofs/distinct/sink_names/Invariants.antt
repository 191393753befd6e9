use Rattle.std.proofs.Common.{◌≡◌, take}
use Rattle.pd_scenario_text.specs.Names.{texts, sink_names}
use Rattle.pd_scenario_text.proofs.distinct.sink_names.Given as goal

abbrev pub invariant-loop-sink : goal.invariant-loop-sink
invariant-loop-sink l = texts l.names.items ≡ sink_names (take l.sink-index l.sinks)
