-- The budget at a time is that of the last change at or before it.
use Rattle.std.proofs.Common.{◌≡◌, ℕ, ◌<◌, ◌≤◌, ◌⊎◌, true, false, ◌&&◌, ◌||◌, ◌==◌, List, [], ◌∷◌, ◌++◌, fold, refl, inl, inr, arith}
use Rattle.std.proofs.Common.{append_assoc, Some, None}
use Rattle.std.specs.Prelude.{Option, Contains, nat_le, nat_lt}
use Rattle.std.proofs.lemmas.Bool.{cases_Bool}
use Rattle.std.proofs.lemmas.Bool.Decides.{nat_tests}
use Rattle.std.specs.Option.{option_to_list}
use Rattle.std.proofs.lemmas.List.{append-nil}
use Rattle.std.proofs.lemmas.List.Sums.{fold-append}
use Rattle.std.proofs.lemmas.List.Elements.{Contains-push, Contains-push_cases, Contains-append_left}
use Rattle.pd_scenario.specs.declared.budget.BudgetChange.{BudgetChange}
use Rattle.pd_scenario.specs.Plan.{Plan, is_later, with_change, last_change, budget_after, force}
use Rattle.pd_scenario.specs.Plans.{IsLast, IsForce}
use Rattle.pd_scenario.proofs.Lists.{none}

-- what is known of the changes so far
abbrev Stands : List BudgetChange → ℕ → Option BudgetChange → Type 0
Stands changes at None = (change : BudgetChange) → Contains changes change → at < change.at
Stands changes at (Some last) = IsLast changes at last

later_numbers : (a b m n : ℕ) → (nat_lt a b || ((a == b) && nat_lt m n)) ≡ true → (a < b) ⊎ ((a ≡ b) × (m ≤ n))
later_numbers a b m n h = grind (arith, nat_tests)

no_later_numbers : (a b m n : ℕ) → (nat_lt a b || ((a == b) && nat_lt m n)) ≡ false → (b < a) ⊎ ((b ≡ a) × (n ≤ m))
no_later_numbers a b m n h = grind (arith, nat_tests)

through : (a b c m n o : ℕ) → (a < b) ⊎ ((a ≡ b) × (m ≤ n)) → (b < c) ⊎ ((b ≡ c) × (n ≤ o)) → (a < c) ⊎ ((a ≡ c) × (m ≤ o))
through a b c m n o h k =
    elim h [
      | inl less ↦ elim k [ inl more ↦ inl (omega arith) | inr tie ↦ inl (omega (arith, tie.0)) ]
      | inr tie ↦
          elim k [ inl more ↦ inl (omega (arith, tie.0)) | inr other ↦ inr (omega (arith, tie.0, other.0), omega (arith, tie.1, other.1)) ]
    ]

-- the change is after the time, and so changes nothing
passed_over : (changes : List BudgetChange) (at : ℕ) (last : Option BudgetChange) (x : BudgetChange) → at < x.at → Stands changes at last
    → Stands (changes ++ x ∷ []) at last
passed_over changes at None x later stands =
    λ f there. elim (Contains-push_cases changes x f there) [ inl old ↦ stands f old | inr is ↦ rw (← is) later ]
passed_over changes at (Some g) x later stands = record {
  there = Contains-append_left changes (x ∷ []) g stands.there;
  in_time = stands.in_time;
  last = λ f there in_time.
      elim (Contains-push_cases changes x f there) [
        | inl old ↦ stands.last f old in_time
        | inr is ↦ let past : at < f.at = rw (← is) later in absurd (omega arith)
      ];
}

itself : (x : BudgetChange) → (x.at < x.at) ⊎ ((x.at ≡ x.at) × (x.id ≤ x.id))
itself x = inr (refl, omega arith)

-- the change is the last from now on
taken : (changes : List BudgetChange) (at : ℕ) (last : Option BudgetChange) (x : BudgetChange) → x.at ≤ at → is_later last x ≡ true
    → Stands changes at last → IsLast (changes ++ x ∷ []) at x
taken changes at None x now later stands = record {
  there = Contains-push changes x;
  in_time = now;
  last = λ f there in_time.
      elim (Contains-push_cases changes x f there) [
        | inl old ↦ let past = stands f old in absurd (omega arith)
        | inr is ↦ rw (← is) (itself x)
      ];
}
taken changes at (Some g) x now later stands = record {
  there = Contains-push changes x;
  in_time = now;
  last = λ f there in_time.
      elim (Contains-push_cases changes x f there) [
        | inl old ↦ through f.at g.at x.at f.id g.id x.id (stands.last f old in_time) (later_numbers g.at x.at g.id x.id later)
        | inr is ↦ rw (← is) (itself x)
      ];
}

-- the last one known stays the last
kept : (changes : List BudgetChange) (at : ℕ) (last : Option BudgetChange) (x : BudgetChange) → is_later last x ≡ false
    → Stands changes at last → Stands (changes ++ x ∷ []) at last
kept changes at None x later stands = absurd (cc)
kept changes at (Some g) x later stands = record {
  there = Contains-append_left changes (x ∷ []) g stands.there;
  in_time = stands.in_time;
  last = λ f there in_time.
      elim (Contains-push_cases changes x f there) [
        | inl old ↦ stands.last f old in_time
        | inr is ↦ rw (← is) (no_later_numbers g.at x.at g.id x.id later)
      ];
}

one_more : (changes : List BudgetChange) (at : ℕ) (last : Option BudgetChange) (x : BudgetChange) → Stands changes at last
    → Stands (changes ++ x ∷ []) at (with_change at last x)
one_more changes at last x stands =
    elim (cases_Bool (nat_le x.at at)) [
      | inl now ↦
          let in_time : x.at ≤ at = grind (arith, nat_tests) in
          elim (cases_Bool (is_later last x)) [
            | inl later ↦ rw (now, later) (taken changes at last x in_time later stands)
            | inr early ↦ rw (now, early) (kept changes at last x early stands)
          ]
      | inr past ↦ let after : at < x.at = grind (arith, nat_tests) in rw past (passed_over changes at last x after stands)
    ]

all_more : (seen rest : List BudgetChange) (at : ℕ) (last : Option BudgetChange) → Stands seen at last
    → Stands (seen ++ rest) at (fold (with_change at) last rest)
all_more seen [] at last stands = rw append-nil stands
all_more seen (x ∷ rest) at last stands =
    let P : List BudgetChange → Type 0 = λ changes. Stands changes at (fold (with_change at) (with_change at last x) rest) in
    let more : P ((seen ++ x ∷ []) ++ rest) = all_more (seen ++ x ∷ []) rest at (with_change at last x) (one_more seen at last x stands) in
    rw append_assoc at more

pub last_stands : (changes : List BudgetChange) (at : ℕ) → Stands changes at (last_change changes at)
last_stands changes at = all_more [] changes at None (λ f there. absurd (none f there))

pub last_is_there : (changes : List BudgetChange) (at : ℕ) (change : BudgetChange) → last_change changes at ≡ Some change
    → Contains changes change
last_is_there changes at change is =
    let P : Option BudgetChange → Type 0 = λ last. Stands changes at last in
    let stands : P (Some change) = rw is at (last_stands changes at) in
    stands.there

is_force : (plan : Plan) (at : ℕ) (last : Option BudgetChange) → Stands plan.forces at last
    → IsForce plan at (budget_after plan.budget last)
is_force plan at None stands = inr (stands, refl)
is_force plan at (Some change) stands = inl (change, stands, refl)

pub force_is_last : (plan : Plan) (at : ℕ) → IsForce plan at (force plan at)
unfolding force
force_is_last plan at = is_force plan at (last_change plan.forces at) (last_stands plan.forces at)

-- one more change, or none
pub last-more : (changes : List BudgetChange) (at : ℕ) (o : Option BudgetChange) (x : BudgetChange) → o ≡ Some x
    → last_change (changes ++ option_to_list o) at ≡ with_change at (last_change changes at) x
last-more changes at o x is = rw is (fold-append (with_change at) None changes (x ∷ []))

pub last-same : (changes : List BudgetChange) (at : ℕ) (o : Option BudgetChange) → o ≡ None
    → last_change (changes ++ option_to_list o) at ≡ last_change changes at
last-same changes at o is = rw (is, append-nil) refl
