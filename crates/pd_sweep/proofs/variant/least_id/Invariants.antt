use Rattle.std.proofs.Common.{◌≡◌, take}
use Rattle.std.specs.Prelude.{fold}
use Rattle.pd_sweep.specs.Variants.{lower_id}
use Rattle.pd_sweep.proofs.variant.least_id.Given as goal

abbrev pub invariant-loop-event : goal.invariant-loop-event
invariant-loop-event l = l.least ≡ fold (lower_id l.port l.at) 1000001 (take l.event-index l.events)
