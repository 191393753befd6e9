use Rattle.std.proofs.Common.{◌≡◌, take}
use Rattle.pd_edit.specs.Edits.{changed_port, with_floor}
use Rattle.pd_edit.proofs.change.with_port_floor.Given as goal

abbrev pub invariant-loop-i : goal.invariant-loop-i
invariant-loop-i l = l.copies.items ≡ changed_port l.port (with_floor l.mw) (take l.i l.settings)
