-- The least budget with one more event.
use Rattle.std.proofs.Common.{◌≡◌, ℕ, List, [], ◌∷◌, ◌++◌}
use Rattle.pd_scenario.specs.declared.event.ScenarioEvent.{ScenarioEvent}
use Rattle.pd_scenario.specs.Scenarios.{least_budget}
use Rattle.pd_edit.proofs.Floors as floors

pub least_append : (b : ℕ) (es : List ScenarioEvent) (e : ScenarioEvent)
    → least_budget b (es ++ e ∷ []) ≡ floors.least_with (least_budget b es) e.happening
least_append b es e = floors.least_append b es e
