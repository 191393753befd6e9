use Rattle.std.proofs.Common.{◌≡◌, ℕ, ◌<◌, None, length, slice_get, slice_index, slice_index_or}
use Rattle.pd_port.specs.Port.{due}
use Rattle.pd_scenario.specs.Plan.{script_of}
use Rattle.pd_run.specs.Start.{no_port}
use Rattle.pd_run.proofs.live.next_dues.Given as goal

abbrev pub invariant-loop-place : goal.invariant-loop-place
invariant-loop-place g l = record {
  count : length l.dues.items ≡ l.place;
  dues : (p : ℕ) → p < l.place → slice_index_or l.dues.items p None
      ≡ due (slice_index_or l.ports p no_port).port_record (slice_get (script_of l.plan p) (slice_index l.taken p));
}
