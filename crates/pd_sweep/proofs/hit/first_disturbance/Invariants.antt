use Rattle.std.proofs.Common.{◌≡◌, take}
use Rattle.std.specs.Prelude.{fold}
use Rattle.pd_sweep.specs.Along.{earlier_disturbance}
use Rattle.pd_sweep.proofs.hit.first_disturbance.Given as goal

abbrev pub invariant-loop-event : goal.invariant-loop-event
invariant-loop-event l = l.first ≡ fold (earlier_disturbance l.port) l.at (take l.event-index l.events)
