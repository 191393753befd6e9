-- The budget at a place in the order of its changes, and its next change.
use Rattle.std.proofs.Common.{◌≡◌, ℕ, ◌+◌, ◌-◌, ◌<◌, ◌≤◌, ◌⊎◌, inl, inr, true, List, [], ◌∷◌, ◌++◌, length, get_or}
use Rattle.std.proofs.Common.{take, drop, set, Some, None, refl, sym, ap, ◌∙◌, arith}
use Rattle.std.specs.Prelude.{Contains}
use Rattle.std.specs.List.Sorted.{IsPermutation}
use Rattle.std.proofs.lemmas.Bool.{cases_lt}
use Rattle.std.specs.Option.{option_to_list}
use Rattle.std.proofs.lemmas.List.{get_or_default, take_more_set, append-nil, length-take-le, take-append-drop, length-append}
use Rattle.std.proofs.Math.Seq.{take-append_seam}
use Rattle.std.proofs.lemmas.List.Elements.{Contains-get_or, filter_map-append}
use Rattle.std.proofs.lemmas.List.Sorted.{Contains-permutation, IsPermutation-sym, length_permutation}
use Rattle.pd_scenario.specs.NextChange.{IsNextChange}
use Rattle.pd_scenario.specs.Plan.{Plan, force}
use Rattle.pd_scenario.specs.Plans.{IsLast, change_of, changes_of}
use Rattle.pd_scenario.specs.Scenarios.{ids_differ}
use Rattle.pd_scenario.specs.declared.budget.BudgetChange.{BudgetChange}
use Rattle.pd_scenario.specs.declared.event.ScenarioEvent.{ScenarioEvent}
use Rattle.pd_scenario.proofs.Forces.{force_is_last}
use Rattle.pd_scenario.proofs.Lists.{none, filter_map-more}
use Rattle.pd_scenario.specs.ByTime.{IsNoLater, IsByTime}
use Rattle.pd_scenario.proofs.ByTime.{both_ways}
use Rattle.pd_scenario.proofs.Ids.{one_change}
use Rattle.pd_scenario.specs.Places.{AreInOrder, StandsAt}

-- ---- the budget at a time

-- before all changes it is the plan's
pub force-first : (plan : Plan) (at : ℕ) → ((c : BudgetChange) → Contains plan.forces c → at < c.at) → force plan at ≡ plan.budget
force-first plan at later =
    elim (force_is_last plan at) [
      | inl past ↦ let after = later past.0 past.1.there in let now = past.1.in_time in absurd (omega arith)
      | inr before ↦ before.1
    ]

-- it is that of the last change
pub force-last : (plan : Plan) (at : ℕ) (order : List BudgetChange) (c : BudgetChange) →
    IsByTime plan.forces order → IsLast plan.forces at c → force plan at ≡ c.budget
force-last plan at order c is last =
    elim (force_is_last plan at) [
      | inl known ↦
          let d : BudgetChange = known.0 in
          let there = known.1.last c last.there last.in_time in
          let here = last.last d known.1.there known.1.in_time in
          let same : d ≡ c = is.one_each d c known.1.there last.there (both_ways d.at c.at d.id c.id here there) in
          known.2 ∙ ap (λ (x : BudgetChange). x.budget) same
      | inr before ↦ let after = before.0 c last.there in let now = last.in_time in absurd (omega arith)
    ]

-- ---- a place in the order

module _ (changes order : List BudgetChange) (place at : ℕ) (is : IsByTime changes order) (stands : StandsAt order place at) where
  in_order_too : (c : BudgetChange) → Contains changes c → Contains order c
  in_order_too c there = Contains-permutation changes order c is.same there

  among : (i : ℕ) (d : BudgetChange) → i < length order → Contains changes (get_or order i d)
  among i d below =
      Contains-permutation order changes (get_or order i d) (IsPermutation-sym changes order is.same) (Contains-get_or order i d below)

  pub later-first : place ≡ 0 → (c : BudgetChange) → Contains changes c → at < c.at
  later-first first c there =
      let (k, below, same) = in_order_too c there in
      let after = stands.ahead k c (omega (arith, first)) below in
      omega (arith, after, ap (λ (x : BudgetChange). x.at) same)

  -- the change before the place is the last by that time
  pub last-behind : (d : BudgetChange) → 0 < place → IsLast changes at (get_or order (place - 1) d)
  last-behind d some =
      let within = stands.within in
      record {
        there = among (place - 1) d (omega arith);
        in_time = stands.past (place - 1) d (omega arith);
        last = λ c there in_time. no_later c (in_order_too c there) in_time;
      }
    where
      no_later : (c : BudgetChange) → Contains order c → c.at ≤ at → IsNoLater c (get_or order (place - 1) d)
      no_later c (k, below, same) in_time =
          let within = stands.within in
          elim (cases_lt k place) [
            | inl behind ↦
                let ordered : IsNoLater (get_or order k c) (get_or order (place - 1) c)
                = is.in_order k (place - 1) c (omega arith) (omega arith) in
                let first : IsNoLater c (get_or order (place - 1) c) = rw same at ordered in
                rw (get_or_default order (place - 1) c d (omega arith)) at first
            | inr ahead ↦
                let after = stands.ahead k c ahead below in
                absurd (omega (arith, after, ap (λ (x : BudgetChange). x.at) same))
          ]

  -- that at the place is the next
  pub next-ahead : (d : BudgetChange) → place < length order → IsNextChange changes at (Some (get_or order place d).at)
  next-ahead d below = (
    stands.ahead place d (omega arith) below,
    (get_or order place d, among place d below, refl),
    λ c there. either c (in_order_too c there),
  )
    where
      no_sooner : (c e : BudgetChange) → IsNoLater c e → c.at ≤ e.at
      no_sooner c e h = elim h [ inl less ↦ omega arith | inr tie ↦ omega (arith, tie.0) ]

      either : (c : BudgetChange) → Contains order c → (c.at ≤ at) ⊎ ((get_or order place d).at ≤ c.at)
      either c (k, in_list, same) =
          let is_at : (get_or order k c).at ≡ c.at = ap (λ (x : BudgetChange). x.at) same in
          let there : (get_or order place c).at ≡ (get_or order place d).at
          = ap (λ (x : BudgetChange). x.at) (get_or_default order place c d below) in
          elim (cases_lt k place) [
            | inl behind ↦ let past = stands.past k c behind in inl (omega (arith, is_at, past))
            | inr ahead ↦
                let ordered = no_sooner (get_or order place c) (get_or order k c) (is.in_order place k c ahead in_list) in
                inr (omega (arith, is_at, there, ordered))
          ]

  pub none-ahead : length order ≤ place → IsNextChange changes at None
  none-ahead all c there =
      let (k, below, same) = in_order_too c there in
      let past = stands.past k c (omega arith) in
      omega (arith, past, ap (λ (x : BudgetChange). x.at) same)

-- what is not before the first that is later is later too
pub ahead-from : (order : List BudgetChange) (place at : ℕ) (e : BudgetChange) → AreInOrder order → at < (get_or order place e).at →
    (i : ℕ) (d : BudgetChange) → place ≤ i → i < length order → at < (get_or order i d).at
ahead-from order place at e in_order later i d up below =
    let same : (get_or order i e).at ≡ (get_or order i d).at = ap (λ (x : BudgetChange). x.at) (get_or_default order i e d below) in
    elim (in_order place i e up below) [ inl less ↦ omega (arith, same) | inr tie ↦ omega (arith, same, tie.0) ]

-- ---- the changes among events

-- the room holds one more, where it holds all
pub has-room : (room : List BudgetChange) (events : List ScenarioEvent) (n i : ℕ) (e : ScenarioEvent) (c : BudgetChange) →
    n ≤ length room → i < length events → e ≡ get_or events i e → change_of e ≡ Some c → take n room ≡ changes_of (take i events) →
    length (changes_of events) ≤ length room → n < length room
has-room room events n i e c within below is change all enough =
    let front : changes_of (take (i + 1) events) ≡ take n room ++ c ∷ [] =
    filter_map-more change_of events i e below is ∙ ap (λ o. changes_of (take i events) ++ option_to_list o) change
    ∙ ap (λ l. l ++ c ∷ []) (sym all) in
    let whole : changes_of events ≡ (take n room ++ c ∷ []) ++ changes_of (drop (i + 1) events) =
    ap changes_of (sym (take-append-drop (i + 1) events)) ∙ filter_map-append change_of (take (i + 1) events) (drop (i + 1) events)
    ∙ ap (λ l. l ++ changes_of (drop (i + 1) events)) front in
    let total : length (changes_of events) ≡ length (take n room) + 1 + length (changes_of (drop (i + 1) events)) =
    ap length whole ∙ length-append (take n room ++ c ∷ []) (changes_of (drop (i + 1) events))
    ∙ ap (λ k. k + length (changes_of (drop (i + 1) events))) (length-append (take n room) (c ∷ [])) in
    let count = length-take-le n room within in
    omega (arith, total, count)

pub one-counted : (events : List ScenarioEvent) (n i : ℕ) (e : ScenarioEvent) (c : BudgetChange) → i < length events →
    e ≡ get_or events i e → change_of e ≡ Some c → n ≡ length (changes_of (take i events)) →
    n + 1 ≡ length (changes_of (take (i + 1) events))
one-counted events n i e c below is change count =
    let more = ap length (filter_map-more change_of events i e below is ∙ ap (λ o. changes_of (take i events) ++ option_to_list o) change)
    ∙ length-append (changes_of (take i events)) (c ∷ []) in
    omega (arith, count, more)

pub none-counted : (events : List ScenarioEvent) (n i : ℕ) (e : ScenarioEvent) → i < length events →
    e ≡ get_or events i e → change_of e ≡ None → n ≡ length (changes_of (take i events)) →
    n ≡ length (changes_of (take (i + 1) events))
none-counted events n i e below is none count =
    count
    ∙ ap length
    (sym (filter_map-more change_of events i e below is ∙ ap (λ o. changes_of (take i events) ++ option_to_list o) none
    ∙ append-nil (changes_of (take i events))))

pub one-more : (room : List BudgetChange) (events : List ScenarioEvent) (n i : ℕ) (e : ScenarioEvent) (c : BudgetChange) →
    n < length room → i < length events → e ≡ get_or events i e → change_of e ≡ Some c → take n room ≡ changes_of (take i events) →
    take (n + 1) (set room n c) ≡ changes_of (take (i + 1) events)
one-more room events n i e c in_room below is change all =
    take_more_set room n c in_room ∙ ap (λ l. l ++ c ∷ []) all
    ∙ sym (filter_map-more change_of events i e below is ∙ ap (λ o. changes_of (take i events) ++ option_to_list o) change)

pub none-more : (room : List BudgetChange) (events : List ScenarioEvent) (n i : ℕ) (e : ScenarioEvent) →
    i < length events → e ≡ get_or events i e → change_of e ≡ None → take n room ≡ changes_of (take i events) →
    take n room ≡ changes_of (take (i + 1) events)
none-more room events n i e below is none all =
    all
    ∙ sym (filter_map-more change_of events i e below is ∙ ap (λ o. changes_of (take i events) ++ option_to_list o) none
    ∙ append-nil (changes_of (take i events)))

-- ---- the changes of a scenario in a room, the first of which are sorted

pub put-in-order : (events : List ScenarioEvent) (room sorted : List BudgetChange) (n : ℕ) → n ≤ length room →
    take n room ≡ changes_of events → IsPermutation (take n room) sorted → AreInOrder sorted → ids_differ events ≡ true →
    IsByTime (changes_of events) (take n (sorted ++ drop n room))
put-in-order events room sorted n within all same in_order differ =
    let count : length sorted ≡ n = length_permutation (take n room) sorted same ∙ length-take-le n room within in
    let front : take n (sorted ++ drop n room) ≡ sorted = ap (λ k. take k (sorted ++ drop n room)) (sym count)
    ∙ take-append_seam sorted (drop n room) in
    rw front (record { same = rw (← all) same; in_order = in_order; one_each = one_change events differ })
