use Rattle.std.proofs.Common.{◌≡◌, ℕ, ◌<◌, false, slice_index_or}
use Rattle.pd_run.specs.Live.{port_at}
use Rattle.pd_run.specs.Start.{no_port}
use Rattle.pd_keep.specs.Kept.{held_by}
use Rattle.pd_keep.proofs.follow.hold_alike.Given as goal

abbrev pub invariant-loop-port : goal.invariant-loop-port
invariant-loop-port g l = (p : ℕ) → p < l.port → slice_index_or l.alike p false ≡ false
    → held_by (slice_index_or l.old.first p no_port) ≡ held_by (port_at l.live p)
