use Rattle.std.proofs.Common.{◌≡◌, ◌≤◌, map, take, All}
use Rattle.pd_setup.specs.Settings.{floor_of}
use Rattle.pd_run.proofs.plan.Plan.floors.Given as goal

abbrev pub invariant-loop-settings : goal.invariant-loop-settings
invariant-loop-settings g l = record {
  floors : l.floors.items ≡ map floor_of (take l.settings-index l.settings-items);
  least : All (λ floor. 500000 ≤ floor) l.floors.items;
}
