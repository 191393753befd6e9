use Rattle.pd_places.proofs.EachTold.{told_exactly}
use Rattle.pd_places.proofs.laws.told_where_it_applies.Goals as goal

pub returns : goal.returns
returns c = told_exactly
