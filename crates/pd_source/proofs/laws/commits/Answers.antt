use Rattle.pd_source.proofs.Commits.{commits-stepped}
use Rattle.pd_source.proofs.laws.commits.Goals as goal

pub returns : goal.returns
returns c = commits-stepped
