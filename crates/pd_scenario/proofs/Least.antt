-- The least budget of more events.
use Rattle.std.proofs.Common.{◌≡◌, ℕ, ◌+◌, ◌<◌, List, length, take, get_or, fold, ap, ◌∙◌}
use Rattle.std.specs.Prelude.{min}
use Rattle.std.specs.Option.{option_to_list}
use Rattle.std.specs.List.{filter_map}
use Rattle.std.proofs.lemmas.List.Sums.{fold-append}
use Rattle.pd_scenario.specs.declared.event.ScenarioEvent.{ScenarioEvent}
use Rattle.pd_scenario.specs.Scenarios.{budget_of, least_budget}
use Rattle.pd_scenario.proofs.Lists.{filter_map-more}

pub least_more : (mw : ℕ) (es : List ScenarioEvent) (i : ℕ) (e : ScenarioEvent) → i < length es → e ≡ get_or es i e
    → least_budget mw (take (i + 1) es) ≡ fold min (least_budget mw (take i es)) (option_to_list (budget_of e))
least_more mw es i e below is =
    ap (fold min mw) (filter_map-more budget_of es i e below is) ∙ fold-append min mw (filter_map budget_of (take i es))
    (option_to_list (budget_of e))
