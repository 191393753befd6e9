-- Ids that rise from event to event differ.
use Rattle.std.proofs.Common.{◌≡◌, ℕ, ◌+◌, ◌<◌, true, false, ◌==◌, nat_lt, List, [], ◌∷◌, length, get_or, refl, arith}
use native.Mathlib.Numerals.{unary_clauses}
use Rattle.std.specs.List.{AllAdjacentBelow}
use Rattle.std.proofs.lemmas.Bool.Decides.{nat_tests}
use Rattle.pd_scenario.specs.Scenarios.{has_id, ids_differ}
use Rattle.pd_scenario.specs.declared.event.ScenarioEvent.{ScenarioEvent}

apart : (id other : ℕ) → id < other → (other == id) ≡ false
apart id other h = grind (arith, nat_tests)

is_less : (a b : ℕ) → true ≡ nat_lt a b → a < b
is_less a b h = grind (arith, nat_tests)

-- each id is less than the next one
abbrev Rise : List ScenarioEvent → Type 0
Rise events = AllAdjacentBelow (λ (a b : ScenarioEvent). true ≡ nat_lt a.id b.id) events (length events)

behind_at : (e : ScenarioEvent) (events : List ScenarioEvent) (k : ℕ) (d : ScenarioEvent) →
    get_or (e ∷ events) (k + 1) d ≡ get_or events k d
behind_at e events k d = simp unary_clauses refl

behind : (e : ScenarioEvent) (events : List ScenarioEvent) → Rise (e ∷ events) → Rise events
behind e events h k d within =
    let less : true ≡ nat_lt (get_or (e ∷ events) (k + 1) d).id (get_or (e ∷ events) (k + 1 + 1) d).id =
    h (k + 1) d (omega (arith, within)) in
    rw (behind_at e events k d, behind_at e events (k + 1) d) at less

-- they differ, and none is less than the first
rising : (e : ScenarioEvent) (events : List ScenarioEvent) → Rise (e ∷ events)
    → (ids_differ (e ∷ events) ≡ true) × ((id : ℕ) → id < e.id → has_id (e ∷ events) id ≡ false)
rising e [] h = (refl, λ id below. rw (apart id e.id below) refl)
rising e (f ∷ events) h =
    let less : e.id < f.id = is_less e.id f.id (h 0 e (omega (arith))) in
    let rest = rising f events (behind e (f ∷ events) h) in (
      rw (rest.1 e.id less, rest.0) refl,
      λ id below. rw (apart id e.id below, rest.1 id (omega (arith, below, less))) refl,
    )

pub rising_differ : (events : List ScenarioEvent) → Rise events → ids_differ events ≡ true
rising_differ [] h = refl
rising_differ (e ∷ events) h = (rising e events h).0
