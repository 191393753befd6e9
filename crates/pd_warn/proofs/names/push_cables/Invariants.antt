use Rattle.std.proofs.Common.{◌≡◌, ◌++◌, take}
use Rattle.std.specs.List.{flat_map}
use Rattle.pd_warn.specs.Stated.{cable_part}
use Rattle.pd_warn.proofs.names.push_cables.Given as goal

abbrev pub invariant-loop-cable : goal.invariant-loop-cable
invariant-loop-cable l = l.out.items ≡ l.initial.out.items ++ flat_map (cable_part l.events) (take l.cable-index l.cables)
