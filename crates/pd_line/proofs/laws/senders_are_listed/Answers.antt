use Rattle.pd_line.proofs.Senders.{senders_are_listed}
use Rattle.pd_line.proofs.laws.senders_are_listed.Goals as goal

pub returns : goal.returns
returns c = senders_are_listed
