-- No two changes of a scenario's budget have one id.
use Rattle.std.proofs.Common.{◌≡◌, ℕ, true, List, sym, ap, ◌∙◌, Some}
use Rattle.std.specs.Prelude.{Contains}
use Rattle.pd_scenario.specs.declared.budget.BudgetChange.{BudgetChange}
use Rattle.pd_scenario.specs.declared.event.ScenarioEvent.{ScenarioEvent}
use Rattle.pd_scenario.specs.declared.event.ScenarioHappening.{ScenarioHappening}
use Rattle.pd_scenario.specs.declared.event.ScenarioHappening.TheVariants.{OnPort, Budget}
use Rattle.pd_scenario.specs.Scenarios.{ids_differ}
use Rattle.pd_scenario.specs.Plans.{change_in, change_of, changes_of}
use Rattle.pd_scenario.proofs.Lists.{filter_map_from}
use Rattle.pd_scenario.proofs.Plans.{one_id}

-- a change has its event's id
same_id : (id at : ℕ) (h : ScenarioHappening) (change : BudgetChange) → change_in id at h ≡ Some change → id ≡ change.id
same_id id at (OnPort port kind) change is = absurd (cc)
same_id id at (Budget mw) change is = cc

unwrapped : (a b : BudgetChange) → Some a ≡ Some b → a ≡ b
unwrapped a b h = cc

pub one_change : (es : List ScenarioEvent) → ids_differ es ≡ true → (a b : BudgetChange) → Contains (changes_of es) a
    → Contains (changes_of es) b → a.id ≡ b.id → a ≡ b
one_change es differ a b a_there b_there ids =
    let left = filter_map_from change_of es a a_there in
    let right = filter_map_from change_of es b b_there in
    let first = same_id left.of.id left.of.at left.of.happening a left.is in
    let second = same_id right.of.id right.of.at right.of.happening b right.is in
    let one = one_id es left.of right.of differ left.there right.there (first ∙ ids ∙ sym second) in
    unwrapped a b (sym left.is ∙ ap change_of one ∙ right.is)
