use Rattle.std.proofs.Common.{◌≡◌, ◌≤◌, ◌*◌, ◌^◌, take}
use Rattle.std.specs.List.{sum_by}
use Rattle.pd_noise.specs.declared.noisy.Noisy.{Noisy}
use Rattle.pd_noise.proofs.report.lost_in_all.Given as goal

abbrev pub invariant-loop-noisy : goal.invariant-loop-noisy
invariant-loop-noisy l = record {
  sum : l.lost ≡ sum_by (λ (x : Noisy). x.lost) (take l.noisy-index l.noisies);
  few : l.lost ≤ l.noisy-index * 2 ^ 64;
}
