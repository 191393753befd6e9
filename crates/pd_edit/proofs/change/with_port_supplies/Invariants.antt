use Rattle.std.proofs.Common.{◌≡◌, take}
use Rattle.pd_edit.specs.Edits.{changed_port}
use Rattle.pd_edit.proofs.change.with_port_supplies.Given as goal

abbrev pub invariant-loop-i : goal.invariant-loop-i
invariant-loop-i l = l.copies.items ≡ changed_port l.port (λ s. record s { supplies = l.supplies.items }) (take l.i l.settings)
