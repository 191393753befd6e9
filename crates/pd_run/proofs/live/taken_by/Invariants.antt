use Rattle.std.proofs.Common.{◌≡◌, ℕ, ◌<◌, length, slice_index}
use Rattle.pd_scenario.specs.Plan.{script_of}
use Rattle.pd_run.specs.UpTo.{had_by}
use Rattle.pd_run.proofs.live.taken_by.Given as goal

abbrev pub invariant-loop-port : goal.invariant-loop-port
invariant-loop-port g l = record {
  count : length l.taken.items ≡ l.port;
  had : (p : ℕ) → p < l.port → slice_index l.taken.items p ≡ had_by l.at (script_of l.plan p);
}
