use Rattle.std.proofs.Common.{◌≡◌, ℕ, ◌<◌}
use Rattle.pd_setup.specs.Settings.{floor_of}
use Rattle.pd_scenario.specs.Plan.{settings_of}
use Rattle.pd_keep.proofs.rerun.have_same_floors.Given as goal

abbrev pub invariant-loop-place : goal.invariant-loop-place
invariant-loop-place g l = (p : ℕ) → p < l.place → floor_of (settings_of l.old p) ≡ floor_of (settings_of l.plan p)
