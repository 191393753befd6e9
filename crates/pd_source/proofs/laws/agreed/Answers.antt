use Rattle.pd_source.proofs.Accepting.{accepting-keeps}
use Rattle.pd_source.proofs.Agreed.{contract-stepped, accepted-stepped, delivered-stepped}
use Rattle.pd_source.proofs.laws.agreed.Goals as goal

pub returns-clause-contract : goal.returns-clause-contract
returns-clause-contract c = contract-stepped

pub returns-clause-accepted : goal.returns-clause-accepted
returns-clause-accepted c = λ s now x a r. accepted-stepped s now x a r

pub returns-clause-delivered : goal.returns-clause-delivered
returns-clause-delivered c = delivered-stepped

pub returns-clause-kept : goal.returns-clause-kept
returns-clause-kept c = accepting-keeps
