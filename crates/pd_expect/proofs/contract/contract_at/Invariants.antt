use Rattle.std.proofs.Common.{◌≡◌, ◌-◌, ◌≤◌, None, length, take}
use Rattle.std.specs.Prelude.{fold}
use Rattle.pd_expect.specs.Along.{stands_after}
use Rattle.pd_expect.proofs.contract.contract_at.Given as goal

abbrev pub invariant-loop-index : goal.invariant-loop-index
invariant-loop-index g l = record {
  value : l.stands ≡ fold (stands_after l.port l.at) None (take l.index (g.T.Runner.entries l.run));
  within : l.index ≤ length (g.T.Runner.entries l.run);
}

abbrev pub decreases-loop-index : goal.decreases-loop-index
decreases-loop-index g l = length (g.T.Runner.entries l.run) - l.index
