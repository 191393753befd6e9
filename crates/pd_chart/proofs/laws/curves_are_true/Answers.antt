use Rattle.pd_chart.proofs.LevelLemmas.{curves_true}
use Rattle.pd_chart.proofs.laws.curves_are_true.Goals as goal

pub returns : goal.returns
returns c = curves_true
