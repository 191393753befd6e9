use Rattle.std.proofs.Common.{◌≡◌, ◌++◌}
use Rattle.std.specs.List.{flat_map, range_with_len}
use Rattle.pd_guarantee.specs.Tellings.{port_text}
use Rattle.pd_guarantee.proofs.tell.push_charger.Given as goal

abbrev pub invariant-loop-p : goal.invariant-loop-p
invariant-loop-p l =
    l.text.items
    ≡ l.initial.text.items
    ++ flat_map (port_text l.form (record { settings = l.ports; least = l.least; greatest = l.greatest })) (range_with_len 0 l.p)
