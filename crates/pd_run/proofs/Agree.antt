-- Plans beside one another.
use Rattle.std.proofs.Common.{◌≡◌, ℕ, zero, suc, ◌+◌, ◌-◌, ◌<◌, ◌≤◌, ◌≢◌, ⊎_elim, Bool, ◌&&◌, All, List, length}
use Rattle.std.proofs.Common.{slice_index, slice_index_or, slice_set, refl, ap, sym, ◌∙◌, subst, inl, inr, arith, below_more}
use Rattle.std.proofs.Common.{true, false, true≢false}
use Rattle.std.proofs.lemmas.List.{get_or-set_same, get_or-set_other}
use Rattle.std.proofs.lemmas.Bool.{cases_eq}
use Rattle.std.specs.Bool.{Decides}
use Rattle.std.proofs.lemmas.Bool.Decides.{Decides-like, Decides-and}
use Rattle.std.proofs.lemmas.List.Elements.{All-contains}
use Rattle.pd_scenario.specs.declared.budget.BudgetChange.{BudgetChange}
use Rattle.pd_scenario.specs.Plan.{Plan, force, script_of}
use Rattle.pd_run.specs.UpTo.{had_by, events_in}
use Rattle.pd_run.specs.Beside.{BesideData, IsApart}
use Rattle.pd_run.proofs.Forces.{change_or_none, same_force}

-- where a change is between two times, both plans have the same budget from then on
abbrev pub IsSameAt : Plan → Plan → ℕ → ℕ → BudgetChange → Type 0
IsSameAt a b from to change = from ≤ change.at → change.at < to → force a change.at ≡ force b change.at

-- stands where there is no change
abbrev pub no_change : BudgetChange
no_change = record { id = 0; at = 0; budget = 0 }

-- the budgets are the same where they are at the first time and at each change since
same_since : (a b : Plan) (from to k : ℕ) → from + k < to → force a from ≡ force b from → All (IsSameAt a b from to) a.forces
    → All (IsSameAt a b from to) b.forces → force a (from + k) ≡ force b (from + k)
same_since a b from to zero lt first old new =
    let e : from ≡ from + zero = omega arith in subst (λ t. force a t ≡ force b t) e first
same_since a b from to (suc k) lt first old new =
    let t = from + k in
    let u = from + suc k in
    let le : t ≤ u = omega arith in
    let before = same_since a b from to k (omega arith) first old new in
    elim (change_or_none a.forces t u) [
      | inl c ↦
          let after = c.after in
          let by_then = c.by_then in
          let e : c.change.at ≡ u = omega arith in
          subst (λ s. force a s ≡ force b s) e (All-contains (IsSameAt a b from to) a.forces c.change old c.one (omega arith) (omega arith))
      | inr none ↦ elim (change_or_none b.forces t u) [
        | inl c ↦
            let after = c.after in
            let by_then = c.by_then in
            let e : c.change.at ≡ u = omega arith in
            subst (λ s. force a s ≡ force b s) e
            (All-contains (IsSameAt a b from to) b.forces c.change new c.one (omega arith) (omega arith))
        | inr none_new ↦ sym (same_force a t u le none) ∙ before ∙ same_force b t u le none_new
      ]
    ]

pub same_between : (a b : Plan) (from to : ℕ) → force a from ≡ force b from → All (IsSameAt a b from to) a.forces
    → All (IsSameAt a b from to) b.forces → (t : ℕ) → from ≤ t → t < to → force a t ≡ force b t
same_between a b from to first old new t le lt =
    let e : from + (t - from) ≡ t = omega arith in
    subst (λ s. force a s ≡ force b s) e (same_since a b from to (t - from) (omega arith) first old new)

-- plans of the same budget and the same changes
pub same_always : (a b : Plan) → a.budget ≡ b.budget → a.forces ≡ b.forces → (t : ℕ) → force a t ≡ force b t
unfolding force
same_always a b budget forces t = cc

-- what holds of each place below one, and of that place, holds of each below the next
pub same_ports : (P : ℕ → Type 0) (n : ℕ) (all one : Bool) → Decides all ((p : ℕ) → p < n → P p) → Decides one (P n)
    → Decides (all && one) ((p : ℕ) → p < n + 1 → P p)
same_ports P n all one is_all is_one =
    Decides-like (all && one) (λ (both : ((p : ℕ) → p < n → P p) × P n). below_more P n both.0 both.1)
    (λ (same : (p : ℕ) → p < n + 1 → P p). ((λ p lt. same p (omega arith)), same n (omega arith)))
    (Decides-and all one is_all is_one)

-- a table that is right below a place for the ports that it is kept for, with one more
set_below : (f : ℕ → ℕ) (Q : ℕ → Type 0) (n : ℕ) (xs : List ℕ) → n < length xs → ((p : ℕ) → p < n → Q p → slice_index xs p ≡ f p)
    → (p : ℕ) → p < n + 1 → Q p → slice_index (slice_set xs n (f n)) p ≡ f p
set_below f Q n xs inside below p lt q =
    ⊎_elim
    (λ (same : p ≡ n). ap (λ k. slice_index (slice_set xs n (f n)) k) same ∙ get_or-set_same xs n (f n) 0 inside ∙ ap f (sym same))
    (λ (other : p ≢ n). get_or-set_other xs n p (f n) 0 other ∙ below p (omega arith) q)
    (cases_eq p n)

-- and what is left of it
set_left : (f : ℕ → ℕ) (Q : ℕ → Type 0) (n m v : ℕ) (xs : List ℕ) → ((p : ℕ) → n ≤ p → p < m → Q p → slice_index xs p ≡ f p)
    → (p : ℕ) → n + 1 ≤ p → p < m → Q p → slice_index (slice_set xs n v) p ≡ f p
set_left f Q n m v xs left p le lt q = get_or-set_other xs n p v 0 (λ same. omega arith) ∙ left p (omega arith) lt q

-- it is right with one more where it isn't kept for that one
none_below : (f : ℕ → ℕ) (Q : ℕ → Type 0) (n : ℕ) (xs : List ℕ) → ¬ Q n → ((p : ℕ) → p < n → Q p → slice_index xs p ≡ f p)
    → (p : ℕ) → p < n + 1 → Q p → slice_index xs p ≡ f p
none_below f Q n xs never below p lt q =
    ⊎_elim (λ (same : p ≡ n). absurd (never (subst Q same q))) (λ (other : p ≢ n). below p (omega arith) q) (cases_eq p n)

-- Of the ports below one, and of the others up to a number, the counts are those up to a time, and those up to an earlier one.
pub record HavePassed (n count from to : ℕ) (a b : Plan) (s : BesideData) : Type 0 where
  pub old_passed : (p : ℕ) → p < n → IsApart s p → slice_index s.old_had p ≡ had_by to (script_of a p)
  pub new_passed : (p : ℕ) → p < n → IsApart s p → slice_index s.new_had p ≡ had_by to (script_of b p)
  pub old_left : (p : ℕ) → n ≤ p → p < count → IsApart s p → slice_index s.old_had p ≡ had_by from (script_of a p)
  pub new_left : (p : ℕ) → n ≤ p → p < count → IsApart s p → slice_index s.new_had p ≡ had_by from (script_of b p)

-- one more port, and whether it has the same events
pub record PassOne (n count from to : ℕ) (a b : Plan) (s t : BesideData) (same : Bool) : Type 0 where
  pub at : t.at ≡ s.at
  pub budget : t.same_budget ≡ s.same_budget
  pub scripts : t.same_scripts ≡ s.same_scripts
  pub one : Decides same (events_in from to (script_of a n) ≡ events_in from to (script_of b n))
  pub passed : HavePassed (n + 1) count from to a b t

-- a port that has the same script is passed by as it is
pub passed_by : (n count from to : ℕ) (a b : Plan) (s : BesideData) → slice_index_or s.same_scripts n false ≡ true
    → script_of a n ≡ script_of b n → HavePassed n count from to a b s → PassOne n count from to a b s s true
passed_by n count from to a b s same script have = record {
  at = refl;
  budget = refl;
  scripts = refl;
  one = (λ _. ap (events_in from to) script, λ _. refl);
  passed = record {
    old_passed = none_below (λ p. had_by to (script_of a p)) (IsApart s) n s.old_had (λ apart. absurd (true≢false (sym same ∙ apart)))
        have.old_passed;
    new_passed = none_below (λ p. had_by to (script_of b p)) (IsApart s) n s.new_had (λ apart. absurd (true≢false (sym same ∙ apart)))
        have.new_passed;
    old_left = λ p le. have.old_left p (omega arith);
    new_left = λ p le. have.new_left p (omega arith);
  };
}

-- another is counted
pub counted_on : (n count from to : ℕ) (a b : Plan) (s : BesideData) (same : Bool) → n < length s.old_had → n < length s.new_had
    → Decides same (events_in from to (script_of a n) ≡ events_in from to (script_of b n)) → HavePassed n count from to a b s
    → PassOne n count from to a b s (record s {
      old_had = slice_set s.old_had n (had_by to (script_of a n));
      new_had = slice_set s.new_had n (had_by to (script_of b n));
    }) same
counted_on n count from to a b s same old new one have = record {
  at = refl;
  budget = refl;
  scripts = refl;
  one = one;
  passed = record {
    old_passed = set_below (λ p. had_by to (script_of a p)) (IsApart s) n s.old_had old have.old_passed;
    new_passed = set_below (λ p. had_by to (script_of b p)) (IsApart s) n s.new_had new have.new_passed;
    old_left = set_left (λ p. had_by from (script_of a p)) (IsApart s) n count _ s.old_had have.old_left;
    new_left = set_left (λ p. had_by from (script_of b p)) (IsApart s) n count _ s.new_had have.new_left;
  };
}
