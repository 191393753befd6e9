-- The budget stays from one of its changes to the next.
use Rattle.std.proofs.Common.{◌≡◌, ℕ, suc, ◌<◌, ◌≤◌, ◌⊎◌, inl, inr, ⊎_elim, Bool, cond, leb, List, [], ◌∷◌, fold, Option, Some, None, refl}
use Rattle.std.proofs.Common.{sym, ap, ◌∙◌, arith}
use Rattle.std.specs.Prelude.{Contains, IfSome, ◌&&◌}
use Rattle.std.specs.List.{AllByRecursion}
use Rattle.std.proofs.lemmas.Bool.{le-leb, lt-leb}
use Rattle.pd_scenario.specs.NextChange.{IsNextChange}
use Rattle.pd_scenario.specs.Plan.{Plan, force, with_change, budget_after, is_later}
use Rattle.pd_scenario.specs.declared.budget.BudgetChange.{BudgetChange}

all-of : {X : Type 0} (P : X → Type 0) (xs : List X) → ((x : X) → Contains xs x → P x) → AllByRecursion P xs
all-of P [] h = tt
all-of P (x ∷ xs) h = (h x (0, omega arith, refl), all-of P xs (λ y k. h y (suc k.0, omega (arith, k.1), k.2)))

with_test : Option BudgetChange → BudgetChange → Bool → Option BudgetChange
with_test last c x = cond (x && is_later last c) (Some c) last

-- changes that are up to both times, or to neither, leave the same at both
same_last : (a t : ℕ) (cs : List BudgetChange) (last : Option BudgetChange) →
    AllByRecursion (λ (c : BudgetChange). leb c.at t ≡ leb c.at a) cs →
    fold (with_change t) last cs ≡ fold (with_change a) last cs
unfolding with_test
same_last a t [] last h = refl
same_last a t (c ∷ cs) last h =
    ap (λ o. fold (with_change t) o cs) (ap (with_test last c) h.0) ∙ same_last a t cs (with_change a last c) h.1

same_side : (c a t : ℕ) → a ≤ t → (c ≤ a) ⊎ (t < c) → leb c t ≡ leb c a
same_side c a t le h =
    ⊎_elim
    (λ (past : c ≤ a). le-leb c t (omega arith) ∙ sym (le-leb c a past))
    (λ (later : t < c). lt-leb c t later ∙ sym (lt-leb c a (omega arith)))
    h

-- a change is not between a time and one before the next change
outside : (changes : List BudgetChange) (a t : ℕ) (next : Option ℕ) → IsNextChange changes a next → IfSome next (λ n. t < n) →
    (c : BudgetChange) → Contains changes c →
    (c.at ≤ a) ⊎ (t < c.at)
outside changes a t None is before c there = inl (is c there)
outside changes a t (Some n) is before c there =
    ⊎_elim (λ (past : c.at ≤ a). inl past) (λ (later : n ≤ c.at). inr (omega arith)) (is.2 c there)

pub force-stays : (plan : Plan) (a t : ℕ) (next : Option ℕ) → IsNextChange plan.forces a next → IfSome next (λ n. t < n) → a ≤ t →
    force plan t ≡ force plan a
unfolding force
force-stays plan a t next is before le =
    ap (budget_after plan.budget)
    (same_last a t plan.forces None
    (all-of (λ (c : BudgetChange). leb c.at t ≡ leb c.at a) plan.forces
    (λ c there. same_side c.at a t le (outside plan.forces a t next is before c there))))

-- the next change is later
pub next-later : (next : Option ℕ) (plan : Plan) (at : ℕ) → IsNextChange plan.forces at next → IfSome next (λ n. at < n)
next-later None plan at is = tt
next-later (Some n) plan at is = is.0
