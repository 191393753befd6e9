use Rattle.std.proofs.Common.{◌≡◌, take}
use Rattle.pd_sweep.specs.Rows.{most_of}
use Rattle.pd_sweep.proofs.rows.most_of.Given as goal

abbrev pub invariant-loop-measure : goal.invariant-loop-measure
invariant-loop-measure l = l.most ≡ most_of l.extent (take l.measure-index l.measures)
