-- Events sorted by their times and ids.
use Rattle.std.proofs.Common.{◌≡◌, ℕ, suc, ◌+◌, ◌<◌, ◌≤◌, ◌⊎◌, false, List, [], ◌∷◌, length, get_or, arith, add-one}
use Rattle.std.specs.Ordering.{nat_cmp, ordering_then, is_lt}
use Rattle.std.specs.declared.cmp.Ordering.{Ordering}
use Rattle.std.proofs.lemmas.Bool.Decides.{nat_tests}
use Rattle.pd_scenario.specs.declared.event.ScenarioEvent.{ScenarioEvent}
use Rattle.pd_save.specs.EditLines.{IsInOrder}

abbrev pub place : ScenarioEvent → ℕ × ℕ
place e = (e.at, e.id)

abbrev pub by_place : ℕ × ℕ → ℕ × ℕ → Ordering
by_place x y = ordering_then (nat_cmp x.0 y.0) (nat_cmp x.1 y.1)

not_less : (a b m n : ℕ) → is_lt (ordering_then (nat_cmp b a) (nat_cmp n m)) ≡ false → (a < b) ⊎ ((a ≡ b) × (m ≤ n))
not_less a b m n h = grind (arith, nat_tests)

pub in_order : (es : List ScenarioEvent)
    → ((k : ℕ) (d : ScenarioEvent) → k + 1 < length es → is_lt (by_place (place (get_or es (k + 1) d)) (place (get_or es k d))) ≡ false)
    → IsInOrder es
in_order [] sorted = tt
in_order (e ∷ []) sorted = tt
in_order (e ∷ (f ∷ es)) sorted = (
  not_less e.at f.at e.id f.id (sorted 0 e (omega arith)),
  in_order (f ∷ es) (λ k d within. rw add-one (rw add-one at (sorted (suc k) d (omega arith)))),
)
