use Rattle.std.proofs.Common.{◌≡◌, take}
use Rattle.pd_vary.specs.Asks.{extremes_of}
use Rattle.pd_vary.proofs.extremes.extremes_of.Given as goal

abbrev pub invariant-loop-index : goal.invariant-loop-index
invariant-loop-index g l = l.extremes ≡ extremes_of l.port (take l.index (g.T.Runner.entries l.run))
