use Rattle.std.proofs.Common.{◌≡◌, ◌≤◌, ◌*◌, take}
use Rattle.std.specs.Prelude.{sum_by}
use Rattle.pd_guarantee.specs.Bounds.{greatest_hold}
use Rattle.pd_guarantee.proofs.bounds.greatest_holds.Given as goal

abbrev pub invariant-loop-port : goal.invariant-loop-port
invariant-loop-port l = record {
  value : l.sum ≡ sum_by greatest_hold (take l.port-index l.ports);
  bound : l.sum ≤ 100000000 * l.port-index;
}
