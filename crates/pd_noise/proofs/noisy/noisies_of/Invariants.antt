use Rattle.std.proofs.Common.{◌≡◌, length}
use Rattle.pd_noise.specs.Noisies.{AreNoisy}
use Rattle.pd_noise.proofs.noisy.noisies_of.Given as goal

abbrev pub invariant-loop-index : goal.invariant-loop-index
invariant-loop-index g l = record {
  count : length l.noisies.items ≡ l.index;
  each : AreNoisy l.scenario l.noise l.runs.first l.noisies.items;
}
