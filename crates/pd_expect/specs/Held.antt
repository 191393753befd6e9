-- Whether an expectation holds of a run.
use Rattle.std.specs.Prelude.{◌≡◌, ℕ, Bool, List, Option, Some, None}
use Rattle.pd_scenario.specs.Plan.{Plan}
use Rattle.pd_expect.specs.OverTime.{Moves}
use Rattle.pd_expect.specs.Sentences.{IsFound, is_met, last_time, late_time}
use Rattle.pd_expect.specs.declared.found.Found.{Found}
use Rattle.pd_expect.specs.declared.lines.Expectation.{Expectation}

-- it does where the run has what is expected; of a time after the end the run says nothing
abbrev pub HoldsInTime : Plan → Moves → List ℕ → Expectation → Option ℕ → Option Bool → Type 0
HoldsInTime plan moves line expectation None verdict =
    (what : Found) × IsFound plan moves line expectation what × (verdict ≡ Some (is_met expectation what))
HoldsInTime plan moves line expectation (Some time) verdict = verdict ≡ None

-- of a run with these moves, as `pdlab test` holds the line against it
abbrev pub IsHeld : Plan → Moves → List ℕ → Expectation → Option Bool → Type 0
IsHeld plan moves line expectation verdict =
    HoldsInTime plan moves line expectation (late_time plan.end (last_time expectation)) verdict
