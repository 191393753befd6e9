-- The greatest budget of a scenario's run.
use Rattle.std.proofs.Common.{◌≡◌, ℕ, ◌+◌, ◌*◌, ◌<◌, ◌≤◌, true, nat_le, if◌then◌else◌, List, [], ◌∷◌, length, take, get_or}
use Rattle.std.proofs.Common.{fold, max, Option, Some, None, inl, inr, refl, sym, ap, ◌∙◌, arith}
use Rattle.std.specs.Prelude.{All, Contains}
use Rattle.std.specs.Option.{option_to_list}
use Rattle.std.specs.List.{filter_map}
use Rattle.std.proofs.lemmas.Bool.Decides.{nat_tests}
use Rattle.std.proofs.lemmas.Bool.{cases_lt}
use Rattle.std.proofs.lemmas.List.Elements.{All-cons, All-contains, All-nil}
use Rattle.std.proofs.lemmas.List.Sums.{fold-append}
use Rattle.std.proofs.lemmas.Option.{same_Some}
use Rattle.pd_scenario.specs.declared.budget.BudgetChange.{BudgetChange}
use Rattle.pd_scenario.specs.declared.event.ScenarioEvent.{ScenarioEvent}
use Rattle.pd_scenario.specs.declared.event.ScenarioHappening.{ScenarioHappening}
use Rattle.pd_scenario.specs.declared.event.ScenarioHappening.TheVariants.{OnPort, Budget}
use Rattle.pd_scenario.specs.Plan.{force}
use Rattle.pd_scenario.specs.Plans.{change_in, change_of, changes_of, plan_of}
use Rattle.pd_scenario.specs.Scenarios.{ScenarioData, budget_in}
use Rattle.pd_scenario.proofs.Forces.{force_is_last}
use Rattle.pd_scenario.proofs.Lists.{cases, filter_map-more, filter_map_from, filter_map_has, here, here_is, there}
use Rattle.pd_warn.specs.Stated.{budget_by, greatest_budget}
use Rattle.pd_warn.specs.Truth.{BudgetsAreGreatest}

pub greatest_more : (mw end : ℕ) (es : List ScenarioEvent) (i : ℕ) (e : ScenarioEvent) → i < length es → e ≡ get_or es i e
    → greatest_budget mw end (take (i + 1) es) ≡ fold max (greatest_budget mw end (take i es)) (option_to_list (budget_by end e))
greatest_more mw end es i e below is =
    ap (fold max mw) (filter_map-more (budget_by end) es i e below is)
    ∙ fold-append max mw (filter_map (budget_by end) (take i es)) (option_to_list (budget_by end e))

-- ---- the greatest of some numbers

pub first_within : (m : ℕ) (xs : List ℕ) → m ≤ fold max m xs
first_within m [] = omega arith
first_within m (x ∷ xs) = let rest = first_within (max m x) xs in omega arith

pub each_within : (m : ℕ) (xs : List ℕ) (share : ℕ) → fold max m xs ≤ share → All (λ x. x ≤ share) xs
each_within m [] share h = All-nil (λ x. x ≤ share)
each_within m (x ∷ xs) share h =
    let first = first_within (max m x) xs in All-cons (λ y. y ≤ share) x xs (omega arith) (each_within (max m x) xs share h)

either_greatest : (m x n : ℕ) (xs : List ℕ) → max m x ≡ n → Contains (m ∷ (x ∷ xs)) n
either_greatest m x n xs e =
    elim (cases_lt m x) [
      | inl less ↦ there m n (x ∷ xs) (here_is x n xs (omega arith))
      | inr more ↦ here_is m n (x ∷ xs) (omega arith)
    ]

one_of_them : (m : ℕ) (xs : List ℕ) → Contains (m ∷ xs) (fold max m xs)
one_of_them m [] = here m []
one_of_them m (x ∷ xs) =
    let n = fold max (max m x) xs in
    elim (cases (max m x) n xs (one_of_them (max m x) xs)) [
      | inl first ↦ either_greatest m x n xs first
      | inr later ↦ there m n (x ∷ xs) (there x n xs later)
    ]

pub budgets_are_greatest : BudgetsAreGreatest
budgets_are_greatest c =
    let others : List ℕ = filter_map (budget_by c.end_us) c.events in
    let greatest = fold max c.budget_mw others in
    record {
      one = one_of_them c.budget_mw others;
      none_greater = All-cons (λ n. n ≤ greatest) c.budget_mw others (first_within c.budget_mw others)
          (each_within c.budget_mw others greatest (omega arith));
    }

-- ---- the budget at a time of the run

-- an event changes to this budget, in microwatts, at its time
record Changes (at : ℕ) (h : ScenarioHappening) (change : BudgetChange) : Type 0 where
  mw : ℕ
  budget_is : budget_in h ≡ Some mw
  time : change.at ≡ at
  power : change.budget ≡ mw * 1000

changes : (id at : ℕ) (h : ScenarioHappening) (change : BudgetChange) → change_in id at h ≡ Some change → Changes at h change
changes id at (OnPort port kind) change e = absurd (let x : None ≡ Some change = e in cc)
changes id at (Budget mw) change e =
    let same : record { id = id; at = at; budget = mw * 1000 } ≡ change = same_Some _ _ e in
    record {
      mw = mw;
      budget_is = refl;
      time = sym (ap (λ (x : BudgetChange). x.at) same);
      power = sym (ap (λ (x : BudgetChange). x.budget) same);
    }

in_run : (end at : ℕ) (o : Option ℕ) (mw : ℕ) → at ≤ end → o ≡ Some mw → (if nat_le at end then o else None) ≡ Some mw
in_run end at o mw le e = rw (within at end le) e where
  within : (a b : ℕ) → a ≤ b → nat_le a b ≡ true
  within a b h = grind (arith, nat_tests)

-- the budget of a change in the run is no greater than the greatest
change_within : (c : ScenarioData) (change : BudgetChange) → Contains (changes_of c.events) change → change.at ≤ c.end_us
    → change.budget ≤ greatest_budget c.budget_mw c.end_us c.events * 1000
change_within c change there soon =
    let from = filter_map_from change_of c.events change there in
    let is = changes from.of.id from.of.at from.of.happening change from.is in
    let by : budget_by c.end_us from.of ≡ Some is.mw =
    in_run c.end_us from.of.at (budget_in from.of.happening) is.mw (omega (arith, is.time)) is.budget_is in
    let others : List ℕ = filter_map (budget_by c.end_us) c.events in
    let one : Contains others is.mw = filter_map_has (budget_by c.end_us) c.events from.of is.mw from.there by in
    let greatest = fold max c.budget_mw others in
    let less : is.mw ≤ greatest =
    All-contains (λ n. n ≤ greatest) others is.mw (each_within c.budget_mw others greatest (omega arith)) one in
    omega (arith, is.power)

-- so is the budget at each time up to the end
pub force_within : (c : ScenarioData) (at : ℕ) → at ≤ c.end_us
    → force (plan_of c) at ≤ greatest_budget c.budget_mw c.end_us c.events * 1000
unfolding plan_of
force_within c at soon =
    elim (force_is_last (plan_of c) at) [
      | inl last ↦
          let time = last.1.in_time in
          let most = change_within c last.0 last.1.there (omega arith) in
          omega (arith, last.2)
      | inr none ↦
          let first = first_within c.budget_mw (filter_map (budget_by c.end_us) c.events) in
          omega (arith, none.1)
    ]
