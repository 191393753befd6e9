-- All that a scenario is warned of: what it says, and what comes of its run.
use Rattle.std.specs.Prelude.{◌≡◌, ℕ, ◌+◌, List, [], ◌∷◌, ◌++◌, map, None}
use Rattle.pd_port.specs.declared.entry.Entry.{Entry}
use Rattle.pd_scenario.specs.Plan.{Plan}
use Rattle.pd_scenario.specs.Plans.{plan_of}
use Rattle.pd_scenario.specs.Scenarios.{ScenarioData}
use Rattle.pd_run.specs.Run.{Move, shown}
use Rattle.pd_run.specs.Shown.{SafeRun}
use Rattle.pd_warn.specs.declared.warning.Warning.{Warning}
use Rattle.pd_warn.specs.Stated.{stated}
use Rattle.pd_watch.specs.Watch.{WatchData, after_step, after_steps, all_at_rest, watch_at}
use Rattle.pd_warn.specs.Watch.{entry_part, unmet}

-- what is warned of along a run
unfoldable pub step_part : List WatchData → ℕ × Entry → List Warning
step_part ws (port, e) = entry_part port (watch_at ws port) e

abbrev pub steps_part : List WatchData → List (ℕ × Entry) → List Warning
steps_part ws [] = []
steps_part ws (s ∷ steps) = step_part ws s ++ steps_part (after_step ws s) steps

-- and of the disturbances that wait at its end; the first of the ports has this number
unfoldable pub left_part : ℕ → List WatchData → List Warning
left_part port [] = []
left_part port (w ∷ ws) = map (unmet port None) w.waiting ++ left_part (port + 1) ws

-- all that is warned of in a run of n ports, of which these are the steps
unfoldable pub run_part : ℕ → List (ℕ × Entry) → List Warning
run_part n steps = steps_part (all_at_rest n) steps ++ left_part 1 (after_steps (all_at_rest n) steps)

-- The warnings of a scenario of n ports: what it says, and what comes of its run, which is safe.
pub record AreWarnings (n : ℕ) (c : ScenarioData) (ws : List Warning) : Type 0 where
  pub moves : List Move
  pub safe : SafeRun (plan_of c) moves
  pub warnings_are : ws ≡ stated c ++ run_part n (map shown moves)

-- what is warned of in the run of a plan of n ports stands behind what was there
pub record Warned (n : ℕ) (plan : Plan) (old new : List Warning) : Type 0 where
  pub moves : List Move
  pub safe : SafeRun plan moves
  pub warnings_are : new ≡ old ++ run_part n (map shown moves)
