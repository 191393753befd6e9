use Rattle.pd_port.proofs.BudgetLaws.{rests_are_empty, keeps_or_sheds, events_come_first}
use Rattle.pd_port.proofs.PortLaws.{hold_contract, hold_fits}
use Rattle.pd_port.proofs.laws.budget.Goals as goal

pub returns-clause-contracts : goal.returns-clause-contracts
returns-clause-contracts c = hold_contract

pub returns-clause-rests : goal.returns-clause-rests
returns-clause-rests c = rests_are_empty

pub returns-clause-changes : goal.returns-clause-changes
returns-clause-changes c = keeps_or_sheds

pub returns-clause-holds : goal.returns-clause-holds
returns-clause-holds c = λ s r d given free h. hold_fits s r d given free h

pub returns-clause-events : goal.returns-clause-events
returns-clause-events c = events_come_first
