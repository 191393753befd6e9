use Rattle.pd_warn.proofs.OfRun.{ignored_events_do_nothing}
use Rattle.pd_warn.proofs.laws.ignored_events_do_nothing.Goals as goal

pub returns : goal.returns
returns c = ignored_events_do_nothing
