use Rattle.pd_source.proofs.Rests.{empty-off, empty-stepped, hold_of-shed}
use Rattle.pd_source.proofs.laws.rests.Goals as goal

pub returns-clause-start : goal.returns-clause-start
returns-clause-start c = empty-off

pub returns-clause-stepped : goal.returns-clause-stepped
returns-clause-stepped c = empty-stepped

pub returns-clause-sheds : goal.returns-clause-sheds
returns-clause-sheds c = hold_of-shed
