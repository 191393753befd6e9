use Rattle.std.proofs.Common.{◌-◌}
use Rattle.pd_plot.specs.Heats.{level}
use Rattle.pd_plot.proofs.Scales.{less_left, scaled_more}
use Rattle.pd_plot.proofs.laws.greater_is_darker.Goals as goal

pub returns : goal.returns
unfolding level
returns c = λ span a b less.
    scaled_more (a - span.least) (b - span.least) (span.greatest - span.least) 9 (less_left a b span.least less)
