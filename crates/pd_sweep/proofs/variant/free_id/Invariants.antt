use Rattle.std.proofs.Common.{◌≡◌}
use Rattle.pd_sweep.specs.Variants.{free_id}
use Rattle.pd_sweep.proofs.variant.free_id.Given as goal

abbrev pub invariant-loop-id : goal.invariant-loop-id
invariant-loop-id g l = free_id l.scenario.events l.id ≡ free_id l.scenario.events l.from

abbrev pub decreases-loop-id : goal.decreases-loop-id
decreases-loop-id g l = l.id
