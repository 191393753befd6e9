use Rattle.std.proofs.Common.{◌≡◌, ◌≤◌, fold, map, max, take}
use Rattle.pd_setup.specs.Settings.{floor_of}
use Rattle.pd_guarantee.specs.Bounds.{power_of}
use Rattle.pd_guarantee.proofs.bounds.greatest_hold.Given as goal

abbrev pub invariant-loop-supply : goal.invariant-loop-supply
invariant-loop-supply l = record {
  value : l.most ≡ fold max (floor_of l.port) (map power_of (take l.supply-index l.supplies));
  bound : l.most ≤ 100000000;
}
