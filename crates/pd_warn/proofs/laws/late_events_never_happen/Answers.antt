use Rattle.pd_warn.proofs.Late.{late_events_never_happen}
use Rattle.pd_warn.proofs.laws.late_events_never_happen.Goals as goal

pub returns : goal.returns
returns c = late_events_never_happen
