-- The plans of the scenarios of a charger have budgets between its least and its greatest.
use Rattle.std.proofs.Common.{◌≡◌, ℕ, ◌+◌, ◌*◌, ◌<◌, ◌≤◌, true, nat_le, if◌then◌else◌, List, [], ◌∷◌, length, take, get_or, fold, max, min}
use Rattle.std.proofs.Common.{Option, Some, None, inl, inr, refl, sym, ap, ◌∙◌, subst, arith}
use Rattle.std.specs.Prelude.{Contains}
use Rattle.std.specs.Option.{option_to_list}
use Rattle.std.specs.List.{filter_map}
use Rattle.std.proofs.lemmas.Bool.Decides.{nat_tests}
use Rattle.std.proofs.lemmas.List.Sums.{fold-append}
use Rattle.std.proofs.lemmas.Option.{same_Some}
use Rattle.pd_scenario.specs.declared.budget.BudgetChange.{BudgetChange}
use Rattle.pd_scenario.specs.declared.event.ScenarioEvent.{ScenarioEvent}
use Rattle.pd_scenario.specs.declared.event.ScenarioHappening.{ScenarioHappening}
use Rattle.pd_scenario.specs.declared.event.ScenarioHappening.TheVariants.{OnPort, Budget}
use Rattle.pd_scenario.specs.Plan.{force}
use Rattle.pd_scenario.specs.Plans.{change_in, change_of, changes_of, plan_of}
use Rattle.pd_scenario.specs.Scenarios.{ScenarioData, budget_in}
use Rattle.pd_scenario.proofs.Forces.{force_is_last}
use Rattle.pd_scenario.proofs.Lists.{cases, filter_map-more, filter_map_from, filter_map_has, least_first, least_of, none}
use Rattle.pd_guarantee.specs.Charger.{IsSameCharger, budget_by, charger_of, greatest_mw, later_budgets, least_mw}
use Rattle.pd_guarantee.specs.Laws.{IsBetween, PlansAreOfTheCharger}

-- ---- the greatest of some numbers

greatest_within : (m : ℕ) (xs : List ℕ) → m ≤ fold max m xs
greatest_within m [] = omega arith
greatest_within m (x ∷ xs) = let rest = greatest_within (max m x) xs in omega arith

greatest_of : (m n : ℕ) (xs : List ℕ) → Contains xs n → n ≤ fold max m xs
greatest_of m n [] there = absurd (none n there)
greatest_of m n (x ∷ xs) there =
    elim (cases x n xs there) [
      | inl first ↦ let rest = greatest_within (max m x) xs in omega arith
      | inr later ↦ greatest_of (max m x) n xs later
    ]

-- ---- a change of the budget in the run

-- an event changes to this budget, in microwatts, at its time
record Changes (at : ℕ) (h : ScenarioHappening) (change : BudgetChange) : Type 0 where
  mw : ℕ
  budget_is : budget_in h ≡ Some mw
  time : change.at ≡ at
  power : change.budget ≡ mw * 1000

changes : (id at : ℕ) (h : ScenarioHappening) (change : BudgetChange) → change_in id at h ≡ Some change → Changes at h change
changes id at (OnPort port kind) change e = absurd (let x : None ≡ Some change = e in cc)
changes id at (Budget mw) change e =
    let same : record { id = id; at = at; budget = mw * 1000 } ≡ change = same_Some _ _ e in
    record {
      mw = mw;
      budget_is = refl;
      time = sym (ap (λ (x : BudgetChange). x.at) same);
      power = sym (ap (λ (x : BudgetChange). x.budget) same);
    }

in_run : (end at : ℕ) (o : Option ℕ) (mw : ℕ) → at ≤ end → o ≡ Some mw → (if nat_le at end then o else None) ≡ Some mw
in_run end at o mw le e = rw (within at end le) e where
  within : (a b : ℕ) → a ≤ b → nat_le a b ≡ true
  within a b h = grind (arith, nat_tests)

between : (s : ScenarioData) (change : BudgetChange) → Contains (changes_of s.events) change → change.at ≤ s.end_us
    → IsBetween (least_mw s * 1000) (greatest_mw s * 1000) change.budget
between s change there soon =
    let from = filter_map_from change_of s.events change there in
    let is = changes from.of.id from.of.at from.of.happening change from.is in
    let by : budget_by s.end_us from.of ≡ Some is.mw =
    in_run s.end_us from.of.at (budget_in from.of.happening) is.mw (omega (arith, is.time)) is.budget_is in
    let one : Contains (later_budgets s) is.mw = filter_map_has (budget_by s.end_us) s.events from.of is.mw from.there by in
    let least = least_of (later_budgets s) s.budget_mw is.mw one in
    let greatest = greatest_of s.budget_mw is.mw (later_budgets s) one in
    record { no_less = omega (arith, is.power); no_more = omega (arith, is.power) }

at_start : (s : ScenarioData) → IsBetween (least_mw s * 1000) (greatest_mw s * 1000) (s.budget_mw * 1000)
at_start s =
    let least = least_first (later_budgets s) s.budget_mw in
    let greatest = greatest_within s.budget_mw (later_budgets s) in
    record { no_less = omega arith; no_more = omega arith }

-- ---- the budget at a time of the run

force_between : (s other : ScenarioData) → IsSameCharger s other → (at : ℕ) → at ≤ other.end_us
    → IsBetween (least_mw s * 1000) (greatest_mw s * 1000) (force (plan_of other) at)
unfolding plan_of
force_between s other is at soon =
    elim (force_is_last (plan_of other) at) [
      | inl last ↦
          let there : Contains (changes_of s.events) last.0 =
          subst (λ (l : List BudgetChange). Contains l last.0) is.changes last.1.there in
          let time = last.1.in_time in
          let ends = is.ends in
          subst (IsBetween (least_mw s * 1000) (greatest_mw s * 1000)) (sym last.2) (between s last.0 there (omega arith))
      | inr none ↦
          let start : other.budget_mw * 1000 ≡ s.budget_mw * 1000 = ap (λ mw. mw * 1000) is.budget in
          subst (IsBetween (least_mw s * 1000) (greatest_mw s * 1000)) (sym (none.1 ∙ start)) (at_start s)
    ]

pub plans_are_of_the_charger : PlansAreOfTheCharger
unfolding plan_of charger_of
plans_are_of_the_charger s other is = record {
  settings = is.settings;
  least = λ at soon. (force_between s other is at soon).no_less;
  greatest = λ at soon. (force_between s other is at soon).no_more;
}

-- ---- one more event

pub least_more : (mw end : ℕ) (es : List ScenarioEvent) (i : ℕ) (e : ScenarioEvent) → i < length es → e ≡ get_or es i e
    → fold min mw (filter_map (budget_by end) (take (i + 1) es))
    ≡ fold min (fold min mw (filter_map (budget_by end) (take i es))) (option_to_list (budget_by end e))
least_more mw end es i e below is =
    ap (fold min mw) (filter_map-more (budget_by end) es i e below is)
    ∙ fold-append min mw (filter_map (budget_by end) (take i es)) (option_to_list (budget_by end e))

pub greatest_more : (mw end : ℕ) (es : List ScenarioEvent) (i : ℕ) (e : ScenarioEvent) → i < length es → e ≡ get_or es i e
    → fold max mw (filter_map (budget_by end) (take (i + 1) es))
    ≡ fold max (fold max mw (filter_map (budget_by end) (take i es))) (option_to_list (budget_by end e))
greatest_more mw end es i e below is =
    ap (fold max mw) (filter_map-more (budget_by end) es i e below is)
    ∙ fold-append max mw (filter_map (budget_by end) (take i es)) (option_to_list (budget_by end e))
