use Rattle.std.proofs.Common.{rules, sym}
use Rattle.pd_edit.proofs.Accepted.{accepted}
use Rattle.pd_edit.proofs.edits.apply.Goals as goal

pub edited-requires : goal.edited-requires
edited-requires g c = (search rules, accepted g.row.N c.args.scenario.now c.args.edit.now (sym c.in_default.ensures))
