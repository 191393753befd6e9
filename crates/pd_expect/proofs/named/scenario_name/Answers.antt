use Rattle.std.proofs.Common.{◌∙◌, sym}
use Rattle.pd_expect.proofs.LineLemmas.{name_found, name_later, name_nowhere}
use Rattle.pd_expect.proofs.named.scenario_name.Goals as goal

pub returns-in-Some-named_by : goal.returns-in-Some-named_by
returns-in-Some-named_by c =
    name_found c.loop-line.rest.now _ _ _ c.in-Some.ensures.lines c.in-Some-named_by.ensures ∙ sym c.loop-line.invariant

pub loop-line-preserved : goal.loop-line-preserved
loop-line-preserved c =
    c.loop-line.invariant ∙ name_later c.loop-line.rest.now _ _ c.in-Some.ensures.lines c.in_default-named_by.ensures

pub returns : goal.returns
returns c = name_nowhere c.loop-line.rest.now c.in_default.ensures.lines ∙ sym c.loop-line.invariant
