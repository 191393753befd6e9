use Rattle.pd_text.proofs.PageLemmas.{nothing_is_closed}
use Rattle.pd_text.proofs.laws.nothing_is_closed.Goals as goal

pub returns : goal.returns
returns c = nothing_is_closed
