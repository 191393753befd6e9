use Rattle.std.proofs.Common.{◌≡◌, take}
use Rattle.pd_scenario.specs.Plan.{last_change}
use Rattle.pd_scenario.specs.Plans.{changes_of}
use Rattle.pd_scenario.proofs.budget.last_change.Given as goal

abbrev pub invariant-loop-event : goal.invariant-loop-event
invariant-loop-event l = l.last ≡ last_change (changes_of (take l.event-index l.events)) l.at
