use Rattle.pd_source.proofs.Holds.{hold_of-floor, hold_of-off, hold_of-allowed}
use Rattle.pd_source.proofs.laws.holds.Goals as goal

pub returns-clause-floor : goal.returns-clause-floor
returns-clause-floor c = hold_of-floor

pub returns-clause-detached : goal.returns-clause-detached
returns-clause-detached c = hold_of-off

pub returns-clause-allowed : goal.returns-clause-allowed
returns-clause-allowed c = hold_of-allowed
