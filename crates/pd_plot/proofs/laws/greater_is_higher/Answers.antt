use Rattle.std.proofs.Common.{arith}
use Rattle.pd_plot.specs.Lines.{y_of}
use Rattle.pd_plot.proofs.Scales.{scaled_more}
use Rattle.pd_plot.proofs.laws.greater_is_higher.Goals as goal

pub returns : goal.returns
unfolding y_of
returns c = λ top a b less. let more = scaled_more a b top 1600 less in omega (arith, more)
