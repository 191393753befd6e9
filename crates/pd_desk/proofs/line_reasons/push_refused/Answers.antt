use Rattle.pd_desk.proofs.line_reasons.push_refused.Goals as goal

pub returns : goal.returns
returns g c = rw (← c.in_ok-front.ensures, ← c.in_ok-reasons.ensures, ← c.as_slice.ensures.value) c.push_places.ensures
