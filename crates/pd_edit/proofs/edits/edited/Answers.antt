use Rattle.std.proofs.Common.{rules}
use Rattle.pd_edit.proofs.Outcome.{valid_outcome}
use Rattle.pd_edit.proofs.edits.edited.Goals as goal

pub new-requires : goal.new-requires
new-requires g c = (
  search rules,
  rw (
    c.in_ok-settings.ensures,
    c.in_ok-cables.ensures,
    c.in_ok-sinks.ensures,
    c.in_ok-events.ensures,
    c.budget_after-budget_mw.ensures,
    c.end_after-end_us.ensures,
  )
      (valid_outcome g.row.N c.args.scenario.now c.args.edit.now c.read_names.ensures c.ports-ports.ensures.is_valid c.requires),
)
