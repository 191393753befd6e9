use Rattle.pd_watch.proofs.Watched.{ports_are_watched}
use Rattle.pd_watch.proofs.laws.ports_are_watched.Goals as goal

pub returns : goal.returns
returns c = ports_are_watched
