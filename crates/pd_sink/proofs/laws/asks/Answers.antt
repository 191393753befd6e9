use Rattle.pd_sink.proofs.Needs.{IsNeed-need_of}
use Rattle.pd_sink.proofs.Accepted.{Contains-accepted}
use Rattle.pd_sink.proofs.Asks.{Asks-asked_of}
use Rattle.pd_sink.proofs.laws.asks.Goals as goal

pub returns-clause-need : goal.returns-clause-need
returns-clause-need c = IsNeed-need_of

pub returns-clause-rule : goal.returns-clause-rule
returns-clause-rule c = Asks-asked_of

pub returns-clause-accepted : goal.returns-clause-accepted
returns-clause-accepted c = Contains-accepted
