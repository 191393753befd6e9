use Rattle.std.proofs.Common.{◌∙◌, sym}
use Rattle.pd_hints.proofs.SlipLemmas.{next_slip, last_slip}
use Rattle.pd_hints.proofs.slip.is_slip.Goals as goal

pub loop-xs-preserved : goal.loop-xs-preserved
loop-xs-preserved c = c.loop-xs.invariant ∙ next_slip _ _ _ _ c.in-Some.ensures.behind

pub returns : goal.returns
returns c = c.is_slip_here.ensures ∙ last_slip _ _ c.in_default.ensures.behind ∙ sym c.loop-xs.invariant
