use Rattle.std.proofs.Common.{◌∙◌, sym}
use Rattle.pd_desk.proofs.LoadedLines.{head_behind, head_here, head_none}
use Rattle.pd_desk.proofs.load.has_head.Goals as goal

pub returns-then-is_head : goal.returns-then-is_head
returns-then-is_head c = sym (c.loop-line.invariant ∙ head_here _ _ _ c.in-Some.ensures.lines c.if-is_head.ensures)

pub loop-line-preserved : goal.loop-line-preserved
loop-line-preserved c = c.loop-line.invariant ∙ head_behind _ _ _ c.in-Some.ensures.lines c.if-is_head.ensures

pub returns : goal.returns
returns c = sym (c.loop-line.invariant ∙ head_none _ c.in_default.ensures.lines)
