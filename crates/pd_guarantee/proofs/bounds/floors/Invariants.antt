use Rattle.std.proofs.Common.{◌≡◌, ◌≤◌, ◌*◌, take}
use Rattle.std.specs.Prelude.{sum_by}
use Rattle.pd_setup.specs.Settings.{floor_of}
use Rattle.pd_guarantee.proofs.bounds.floors.Given as goal

abbrev pub invariant-loop-port : goal.invariant-loop-port
invariant-loop-port l = record {
  value : l.sum ≡ sum_by floor_of (take l.port-index l.ports);
  bound : l.sum ≤ 100000000 * l.port-index;
}
