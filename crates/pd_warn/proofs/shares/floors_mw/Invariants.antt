use Rattle.std.proofs.Common.{◌≡◌, ◌≤◌, ◌*◌, take}
use Rattle.pd_scenario.specs.Scenarios.{floors_mw}
use Rattle.pd_warn.proofs.shares.floors_mw.Given as goal

abbrev pub invariant-loop-port : goal.invariant-loop-port
invariant-loop-port l = record {
  value : l.sum ≡ floors_mw (take l.port-index l.ports);
  bound : l.sum ≤ 100000 * l.port-index;
}
