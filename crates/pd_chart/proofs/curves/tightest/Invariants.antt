use Rattle.std.proofs.Common.{◌≡◌, take}
use Rattle.pd_chart.specs.Curves.{tightest}
use Rattle.pd_chart.proofs.curves.tightest.Given as goal

abbrev pub invariant-loop-level : goal.invariant-loop-level
invariant-loop-level l = l.least ≡ tightest l.fn.first (take l.level-index l.levels)
