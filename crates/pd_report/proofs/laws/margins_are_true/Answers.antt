use Rattle.pd_report.proofs.TruthLemmas.{margins_true}
use Rattle.pd_report.proofs.laws.margins_are_true.Goals as goal

pub returns : goal.returns
returns c = margins_true
