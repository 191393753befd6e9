use Rattle.pd_watch.proofs.Watched.{takers_are_named}
use Rattle.pd_watch.proofs.laws.takers_are_named.Goals as goal

pub returns : goal.returns
returns c = takers_are_named
