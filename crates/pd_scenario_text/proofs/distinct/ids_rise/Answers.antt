use Rattle.std.proofs.Common.{rules, ◌≡◌, nat_lt}
use Rattle.std.proofs.lemmas.List.Sorted.{answers_always}
use Rattle.pd_scenario.specs.declared.event.ScenarioEvent.{ScenarioEvent}
use Rattle.pd_scenario_text.proofs.distinct.ids_rise.Goals as goal

pub returns : goal.returns
returns c =
    c.is_sorted_by.ensures.cases (λ (a b : ScenarioEvent). nat_lt a.id b.id)
    (answers_always _ (λ a r. r ≡ nat_lt a.0.now.id a.1.0.now.id) _ (λ f a r f' called. search rules))
