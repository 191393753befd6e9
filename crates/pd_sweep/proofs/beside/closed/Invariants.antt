use Rattle.std.proofs.Common.{◌≡◌, ℕ, ◌<◌, get_or, length}
use Rattle.pd_sweep.specs.Beside.{closed, no_measure, nothing_yet}
use Rattle.pd_sweep.proofs.beside.closed.Given as goal

abbrev pub invariant-loop-port : goal.invariant-loop-port
invariant-loop-port l = record {
  count_is : length l.measures ≡ 8;
  each : (k : ℕ) → k < l.port → get_or l.measures k no_measure ≡ closed (get_or l.ledgers k nothing_yet) l.end;
}
