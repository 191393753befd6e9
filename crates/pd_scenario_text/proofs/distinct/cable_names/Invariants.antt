use Rattle.std.proofs.Common.{◌≡◌, take}
use Rattle.pd_scenario_text.specs.Names.{texts, cable_names}
use Rattle.pd_scenario_text.proofs.distinct.cable_names.Given as goal

abbrev pub invariant-loop-cable : goal.invariant-loop-cable
invariant-loop-cable l = texts l.names.items ≡ cable_names (take l.cable-index l.cables)
