use Rattle.pd_source.proofs.Limits.{asked-stepped, limit-stepped}
use Rattle.pd_source.proofs.laws.limits.Goals as goal

pub returns-clause-asked : goal.returns-clause-asked
returns-clause-asked c = asked-stepped

pub returns-clause-causes : goal.returns-clause-causes
returns-clause-causes c = limit-stepped
