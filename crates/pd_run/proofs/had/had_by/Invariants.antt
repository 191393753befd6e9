use Rattle.std.proofs.Common.{◌-◌, ◌≤◌, length}
use Rattle.pd_scenario.specs.Plan.{script_of}
use Rattle.pd_run.specs.UpTo.{had_by}
use Rattle.pd_run.proofs.had.had_by.Given as goal

abbrev pub invariant-loop-event : goal.invariant-loop-event
invariant-loop-event g l = l.had ≤ had_by l.at (script_of l.plan (l.port - 1))

abbrev pub decreases-loop-event : goal.decreases-loop-event
decreases-loop-event g l = length (script_of l.plan (l.port - 1)) - l.had
