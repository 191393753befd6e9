use Rattle.std.proofs.Common.{◌≡◌, take}
use Rattle.pd_expect.specs.Details.{nearest}
use Rattle.pd_expect.proofs.near.nearest.Given as goal

abbrev pub invariant-loop-index : goal.invariant-loop-index
invariant-loop-index g l = l.near ≡ nearest l.sign l.from l.to (take l.index (g.T.Runner.entries l.run))
