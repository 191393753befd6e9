use Rattle.std.proofs.Common.{◌≡◌, ◌++◌, take}
use Rattle.std.specs.List.{flat_map}
use Rattle.pd_explain.specs.Places.{causes, reasons_at}
use Rattle.pd_explain.proofs.refused.push_all.Given as goal

abbrev pub invariant-loop-fault : goal.invariant-loop-fault
invariant-loop-fault g l =
    l.reasons.items
    ≡ l.initial.reasons.items
    ++ flat_map (λ fault. reasons_at fault (causes fault g.row.N l.scenario l.edit)) (take l.fault-index l.faults)
