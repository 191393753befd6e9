use Rattle.std.proofs.Common.{◌≡◌, drop}
use Rattle.std.specs.Prelude.{find}
use Rattle.pd_noise.specs.EditScripts.{is_new}
use Rattle.pd_noise.proofs.edits.new_id.Given as goal

abbrev pub invariant-loop-event : goal.invariant-loop-event
invariant-loop-event g l =
    find (is_new l.scenario.events) l.event-items ≡ find (is_new l.scenario.events) (drop l.event-index l.event-items)
