use Rattle.std.proofs.Common.{◌-◌, arith}
use Rattle.pd_plot.specs.Lines.{x_at}
use Rattle.pd_plot.proofs.Scales.{less_left, scaled_more}
use Rattle.pd_plot.proofs.laws.greater_is_further.Goals as goal

pub returns : goal.returns
unfolding x_at
returns c = λ span a b less.
    let more = scaled_more (a - span.least) (b - span.least) (span.greatest - span.least) 10900 (less_left a b span.least less) in
    omega (arith, more)
