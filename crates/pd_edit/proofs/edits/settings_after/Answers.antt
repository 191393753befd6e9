use Rattle.pd_edit.proofs.Settings.{supplies_kept}
use Rattle.pd_edit.proofs.edits.settings_after.Goals as goal

pub with_port_supplies-requires : goal.with_port_supplies-requires
with_port_supplies-requires g c = rw c.supplies_of.ensures (supplies_kept c.in-Caps.supplies.items (rw c.in-Caps.is at c.requires.supplies))
