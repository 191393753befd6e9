use Rattle.std.proofs.Common.{◌≡◌, ◌≤◌, ◌+◌, ◌++◌, drop, length}
use Rattle.std.specs.List.{All}
use Rattle.pd_sink.specs.Rule.{accepted, accepted_from, IsOffered}
use Rattle.pd_sink.proofs.rule.accepted_supplies.Given as goal

abbrev pub invariant-loop-object : goal.invariant-loop-object
invariant-loop-object l = record {
  place : l.position ≡ l.object-index + 1;
  value : l.supplies.items ++ accepted_from l.sink l.position (drop l.object-index l.offer) ≡ accepted l.sink l.offer;
  sound : All IsOffered l.supplies.items;
  few : length l.supplies.items ≤ l.object-index;
}
