use Rattle.std.proofs.Common.{◌≡◌, ℕ, ◌<◌, max, length, slice_index, slice_index_or}
use Rattle.pd_port.specs.Port.{hold}
use Rattle.pd_run.specs.Start.{no_port}
use Rattle.pd_run.proofs.live.holds_of.Given as goal

abbrev pub invariant-loop-place : goal.invariant-loop-place
invariant-loop-place l = record {
  count : length l.holds.items ≡ l.place;
  holds : (p : ℕ) → p < l.place → slice_index l.holds.items p ≡ max (slice_index l.floors p)
      (hold (slice_index_or l.ports p no_port).settings (slice_index_or l.ports p no_port).port_record);
}
