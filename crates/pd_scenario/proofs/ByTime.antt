-- The last change at a time, found among the changes in the order of their times.
use Rattle.std.proofs.Common.{◌≡◌, ℕ, ◌-◌, ◌<◌, ◌≤◌, ◌⊎◌, true, false, List, length, get_or, refl, sym, ap, ◌∙◌}
use Rattle.std.proofs.Common.{inl, inr, arith, Some, None}
use Rattle.std.specs.Prelude.{Option, Contains, nat_le}
use Rattle.std.specs.List.Sorted.{IsNonDecreasingBy, IsPartitionPoint, IsSortedByKey}
use Rattle.std.specs.Ordering.{nat_cmp, ordering_then, is_lt}
use Rattle.std.specs.declared.cmp.Ordering.{Ordering}
use Rattle.std.proofs.lemmas.Bool.{cases_lt}
use Rattle.std.proofs.lemmas.Bool.Decides.{nat_tests}
use Rattle.std.proofs.lemmas.Cmp.{nat_cmp_total, on_total, then_total}
use Rattle.std.proofs.lemmas.List.{get_or_default}
use Rattle.std.proofs.lemmas.List.Sorted.{Contains-permutation, IsPermutation-sym, sorted_far, ranks_by}
use Rattle.pd_scenario.specs.declared.budget.BudgetChange.{BudgetChange}
use Rattle.pd_scenario.specs.Plan.{last_change}
use Rattle.pd_scenario.specs.Plans.{IsLast}
use Rattle.pd_scenario.proofs.Forces.{last_stands}
use Rattle.pd_scenario.specs.ByTime.{IsNoLater, IsByTime}

-- ---- the order

abbrev pub place : BudgetChange → ℕ × ℕ
place c = (c.at, c.id)

abbrev pub by_place : ℕ × ℕ → ℕ × ℕ → Ordering
by_place x y = ordering_then (nat_cmp x.0 y.0) (nat_cmp x.1 y.1)

no_later : (a b m n : ℕ) → is_lt (ordering_then (nat_cmp b a) (nat_cmp n m)) ≡ false → (a < b) ⊎ ((a ≡ b) × (m ≤ n))
no_later a b m n h = grind (arith, nat_tests)

pub in_order : (by_time : List BudgetChange) → IsSortedByKey place by_place by_time → (i j : ℕ) (d : BudgetChange) → i ≤ j
    → j < length by_time → IsNoLater (get_or by_time i d) (get_or by_time j d)
in_order by_time sorted i j d le within =
    let a = get_or by_time i d in
    let b = get_or by_time j d in
    let total = then_total (on_total (λ (x : ℕ × ℕ). x.0) nat_cmp_total) (on_total (λ (x : ℕ × ℕ). x.1) nat_cmp_total) in
    no_later a.at b.at a.id b.id
    (sorted_far (λ x y. is_lt (by_place (place x) (place y))) (ranks_by total place) by_time sorted i j d le within)

earlier : (a b m n : ℕ) → (a < b) ⊎ ((a ≡ b) × (m ≤ n)) → a ≤ b
earlier a b m n h = elim h [ inl less ↦ omega arith | inr tie ↦ omega (arith, tie.0) ]

pub times_rise : (changes by_time : List BudgetChange) → IsByTime changes by_time → IsNonDecreasingBy (λ (c : BudgetChange). c.at) by_time
times_rise changes by_time is = λ i j d le within.
    let a = get_or by_time i d in
    let b = get_or by_time j d in
    earlier a.at b.at a.id b.id (is.in_order i j d le within)

-- ---- the last change

-- no later than one another: at one time, with one id
pub both_ways : (a b m n : ℕ) → (a < b) ⊎ ((a ≡ b) × (m ≤ n)) → (b < a) ⊎ ((b ≡ a) × (n ≤ m)) → m ≡ n
both_ways a b m n h k =
    elim h [
      | inl less ↦ elim k [ inl more ↦ absurd (omega arith) | inr tie ↦ absurd (omega (arith, tie.0)) ]
      | inr tie ↦ elim k [ inl more ↦ absurd (omega (arith, tie.0)) | inr other ↦ omega (arith, tie.1, other.1) ]
    ]

-- no two are the last
one_last : (changes by_time : List BudgetChange) (at : ℕ) (a b : BudgetChange) → IsByTime changes by_time → IsLast changes at a
    → IsLast changes at b → a ≡ b
one_last changes by_time at a b is first second =
    is.one_each a b first.there second.there
    (both_ways a.at b.at a.id b.id (second.last a first.there first.in_time) (first.last b second.there second.in_time))

-- what `last_stands` says of the last change
abbrev Stands : List BudgetChange → ℕ → Option BudgetChange → Type 0
Stands changes at None = (change : BudgetChange) → Contains changes change → at < change.at
Stands changes at (Some last) = IsLast changes at last

no_last : (changes : List BudgetChange) (at : ℕ) (last : Option BudgetChange) → Stands changes at last
    → ((change : BudgetChange) → Contains changes change → at < change.at) → last ≡ None
no_last changes at None stands later = refl
no_last changes at (Some last) stands later = let past = later last stands.there in let now = stands.in_time in absurd (omega arith)

the_last : (changes by_time : List BudgetChange) (at : ℕ) (last : Option BudgetChange) (change : BudgetChange) → IsByTime changes by_time
    → Stands changes at last → IsLast changes at change → last ≡ Some change
the_last changes by_time at None change is stands found =
    let past = stands change found.there in
    let now = found.in_time in
    absurd (omega arith)
the_last changes by_time at (Some last) change is stands found =
    ap (λ (c : BudgetChange). Some c) (one_last changes by_time at last change is stands found)

-- so many of the changes are at or before a time
abbrev pub Parted : List BudgetChange → ℕ → ℕ → Type 0
Parted by_time at count =
    IsPartitionPoint (λ (c : BudgetChange). nat_le c.at at ≡ true) (λ (c : BudgetChange). nat_le c.at at ≡ false) by_time count

late : (a at : ℕ) → nat_le a at ≡ false → at < a
late a at h = grind (arith, nat_tests)

in_time : (a at : ℕ) → nat_le a at ≡ true → a ≤ at
in_time a at h = grind (arith, nat_tests)

-- where a change stands by its time
placed : (changes by_time : List BudgetChange) (change : BudgetChange) → IsByTime changes by_time → Contains changes change
    → Contains by_time change
placed changes by_time change is there = Contains-permutation changes by_time change is.same there

pub none_found : (changes by_time : List BudgetChange) (at : ℕ) → IsByTime changes by_time → Parted by_time at 0
    → last_change changes at ≡ None
none_found changes by_time at is parted =
    no_last changes at (last_change changes at) (last_stands changes at) (
    λ change there.
    let (k, within, here) = placed changes by_time change is there in
    rw here at (late (get_or by_time k change).at at (parted.1 k change (omega arith) within))
    )

-- x stands just before the part that is later
found_is_last : (changes by_time : List BudgetChange) (at count : ℕ) (x : BudgetChange) → IsByTime changes by_time
    → Parted by_time at count → 0 < count → count ≤ length by_time → x ≡ get_or by_time (count - 1) x → IsLast changes at x
found_is_last changes by_time at count x is parted some within here =
    let last = count - 1 in
    let below : last < length by_time = omega arith in
    let passed : nat_le x.at at ≡ true = rw (sym here) at (parted.0 last x (omega arith) (omega arith)) in
    record {
      there = Contains-permutation by_time changes x (IsPermutation-sym changes by_time is.same) (last, below, sym here);
      in_time = in_time x.at at passed;
      last = λ other there now.
          let (k, in_list, stands) = placed changes by_time other is there in
          elim (cases_lt k count) [
            | inl before ↦
                let order = is.in_order k last x (omega arith) below in
                rw (get_or_default by_time k x other in_list ∙ stands, sym here) at order
            | inr past ↦
                let later : at < other.at = rw stands at (late (get_or by_time k other).at at (parted.1 k other past in_list)) in
                absurd (omega arith)
          ];
    }

pub one_found : (changes by_time : List BudgetChange) (at count : ℕ) (x : BudgetChange) → IsByTime changes by_time
    → Parted by_time at count → 0 < count → count ≤ length by_time → x ≡ get_or by_time (count - 1) x
    → last_change changes at ≡ Some x
one_found changes by_time at count x is parted some within here =
    the_last changes by_time at (last_change changes at) x is (last_stands changes at)
    (found_is_last changes by_time at count x is parted some within here)
