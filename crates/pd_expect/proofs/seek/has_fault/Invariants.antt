use Rattle.std.proofs.Common.{◌≡◌, ◌-◌, ◌≤◌, false, length, take}
use Rattle.std.specs.Prelude.{fold}
use Rattle.pd_expect.specs.Sentences.{has_fault}
use Rattle.pd_expect.proofs.SeekLemmas.{or_passes}
use Rattle.pd_expect.proofs.seek.has_fault.Given as goal

abbrev pub invariant-loop-index : goal.invariant-loop-index
invariant-loop-index g l = record {
  value : l.found ≡ fold (or_passes (has_fault l.port l.words)) false (take l.index (g.T.Runner.entries l.run));
  within : l.index ≤ length (g.T.Runner.entries l.run);
}

abbrev pub decreases-loop-index : goal.decreases-loop-index
decreases-loop-index g l = length (g.T.Runner.entries l.run) - l.index
