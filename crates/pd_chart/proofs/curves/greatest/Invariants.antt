use Rattle.std.proofs.Common.{◌≡◌, take}
use Rattle.pd_chart.specs.Curves.{greatest}
use Rattle.pd_chart.proofs.curves.greatest.Given as goal

abbrev pub invariant-loop-level : goal.invariant-loop-level
invariant-loop-level l = l.top ≡ greatest (take l.level-index l.levels)
