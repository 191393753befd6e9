use Rattle.std.proofs.Common.{◌-◌, ◌∙◌, ap}
use Rattle.pd_run.specs.Live.{port_at}
use Rattle.pd_why.proofs.ShareLemmas.{left_more}
use Rattle.pd_why.proofs.look.left.Goals as goal

pub loop-number-preserved : goal.loop-number-preserved
loop-number-preserved g c =
    left_more (port_at c.args.live.now) c.args.budget (c.args.port - 1) c.loop-number.number c.loop-number.left _
    c.loop-number.invariant (c.saturating_sub-left.ensures ∙ ap (λ v. c.loop-number.left - v) c.hold_beside.ensures)
