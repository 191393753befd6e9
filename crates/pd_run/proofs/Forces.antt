-- Changes of the budget between two times.
use Rattle.std.proofs.Common.{◌≡◌, ◌⊎◌, ℕ, zero, suc, ◌<◌, ◌≤◌, Bool, true, false, ◌&&◌, ◌||◌, ◌==◌, nat_le, if◌then◌else◌, List}
use Rattle.std.proofs.Common.{[], ◌∷◌, length, slice_index_or, fold, Option, Some, None, refl, ap, ◌∙◌, inl, inr, arith}
use Rattle.std.specs.Prelude.{Contains}
use Rattle.std.proofs.lemmas.Bool.{cases_lt}
use Rattle.std.proofs.lemmas.Bool.Decides.{nat_tests}
use Rattle.pd_scenario.specs.declared.budget.BudgetChange.{BudgetChange}
use Rattle.pd_scenario.specs.Plan.{Plan, is_later, with_change, budget_after, force}

there : {X : Type 0} (x y : X) (ys : List X) → Contains ys x → Contains (y ∷ ys) x
there x y ys h = (suc h.0, (let k = h.1 in omega arith), h.2)

-- a change after the first time and up to the second
pub record ChangeIn (changes : List BudgetChange) (from to : ℕ) : Type 0 where
  pub change : BudgetChange
  pub one : Contains changes change
  pub after : from < change.at
  pub by_then : change.at ≤ to

-- none of the changes is
abbrev pub NoneIn : List BudgetChange → ℕ → ℕ → Type 0
NoneIn [] from to = Unit {0}
NoneIn (c ∷ cs) from to = ((c.at ≤ from) ⊎ (to < c.at)) × NoneIn cs from to

with_first : (c : BudgetChange) (cs : List BudgetChange) (from to : ℕ) → (c.at ≤ from) ⊎ (to < c.at) → ChangeIn cs from to
    ⊎ NoneIn cs from to → ChangeIn (c ∷ cs) from to ⊎ NoneIn (c ∷ cs) from to
with_first c cs from to h (inl i) =
    inl (record { change = i.change; one = there i.change c cs i.one; after = i.after; by_then = i.by_then })
with_first c cs from to h (inr n) = inr (h, n)

pub change_or_none : (changes : List BudgetChange) (from to : ℕ) → ChangeIn changes from to ⊎ NoneIn changes from to
change_or_none [] from to = inr tt
change_or_none (c ∷ cs) from to =
    elim (cases_lt from c.at) [
      | inl after ↦ elim (cases_lt to c.at) [
        | inl late ↦ with_first c cs from to (inr late) (change_or_none cs from to)
        | inr by_then ↦ inl (record { change = c; one = (zero, (omega arith), refl); after = after; by_then = by_then })
      ]
      | inr early ↦ with_first c cs from to (inl early) (change_or_none cs from to)
    ]

same_test : (a from to : ℕ) → from ≤ to → (a ≤ from) ⊎ (to < a) → nat_le a from ≡ nat_le a to
same_test a from to le h = grind (arith, nat_tests)

same_last : (changes : List BudgetChange) (from to : ℕ) (last : Option BudgetChange) → from ≤ to → NoneIn changes from to
    → fold (with_change from) last changes ≡ fold (with_change to) last changes
same_last [] from to last le h = refl
same_last (c ∷ cs) from to last le h =
    ap (λ (b : Bool). fold (with_change from) (if b && is_later last c then Some c else last) cs) (same_test c.at from to le h.0)
    ∙ same_last cs from to (with_change to last c) le h.1

-- where the budget doesn't change in between it is the same
pub same_force : (plan : Plan) (from to : ℕ) → from ≤ to → NoneIn plan.forces from to → force plan from ≡ force plan to
unfolding force
same_force plan from to le h = ap (budget_after plan.budget) (same_last plan.forces from to None le h)

-- whether the budget changes at a time
abbrev pub changes_at : List BudgetChange → ℕ → Bool
changes_at [] at = false
changes_at (c ∷ cs) at = (c.at == at) || changes_at cs at

-- a change at this time
pub record ChangeAt (changes : List BudgetChange) (at : ℕ) : Type 0 where
  pub change : BudgetChange
  pub one : Contains changes change
  pub is_then : change.at ≡ at

by_first : (c : BudgetChange) (cs : List BudgetChange) (at : ℕ) (b : Bool) → (c.at == at) ≡ b → b || changes_at cs at ≡ true
    → (changes_at cs at ≡ true → ChangeAt cs at) → ChangeAt (c ∷ cs) at
by_first c cs at true e h k = record { change = c; one = (zero, (omega arith), refl); is_then = grind (arith, nat_tests) }
by_first c cs at false e h k = let i = k h in record { change = i.change; one = there i.change c cs i.one; is_then = i.is_then }

pub change_at : (changes : List BudgetChange) (at : ℕ) → changes_at changes at ≡ true → ChangeAt changes at
change_at [] at h = absurd (cc)
change_at (c ∷ cs) at h = by_first c cs at (c.at == at) refl h (change_at cs at)

or-right : (a b : Bool) → b ≡ true → a || b ≡ true
or-right true b h = refl
or-right false b h = h

self_test : (a b : ℕ) (c : Bool) → a ≡ b → (a == b) || c ≡ true
self_test a b c e = grind (arith, nat_tests)

at_place : (changes : List BudgetChange) (change : BudgetChange) (k : ℕ) → k < length changes → slice_index_or changes k change ≡ change
    → changes_at changes change.at ≡ true
at_place [] change k lt e = absurd (omega arith)
at_place (c ∷ cs) change zero lt e = self_test c.at change.at (changes_at cs change.at) (ap (λ (x : BudgetChange). x.at) e)
at_place (c ∷ cs) change (suc k) lt e = or-right (c.at == change.at) (changes_at cs change.at) (at_place cs change k (omega arith) e)

pub changes_there : (changes : List BudgetChange) (change : BudgetChange) → Contains changes change → changes_at changes change.at ≡ true
changes_there changes change h = at_place changes change h.0 h.1 h.2
