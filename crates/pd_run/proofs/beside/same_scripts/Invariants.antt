use Rattle.std.proofs.Common.{◌≡◌, ℕ, ◌<◌, length, false, slice_index_or}
use Rattle.std.specs.Prelude.{◌↔◌, IsTrue}
use Rattle.pd_scenario.specs.Plan.{script_of}
use Rattle.pd_run.proofs.beside.same_scripts.Given as goal

abbrev pub invariant-loop-port : goal.invariant-loop-port
invariant-loop-port g l = record {
  count : length l.same.items ≡ l.port;
  same : (p : ℕ) → p < l.port → IsTrue (slice_index_or l.same.items p false) ↔ (script_of l.old p ≡ script_of l.plan p);
}
