use Rattle.std.proofs.Common.{◌≡◌, ◌++◌}
use Rattle.std.specs.List.{flat_map, range_with_len}
use Rattle.pd_guarantee.specs.Tellings.{supply_line}
use Rattle.pd_guarantee.proofs.tell.push_supplies.Given as goal

abbrev pub invariant-loop-i : goal.invariant-loop-i
invariant-loop-i l =
    l.text.items ≡ l.initial.text.items ++ flat_map (supply_line l.form l.port l.free l.supplies) (range_with_len 0 l.i)
