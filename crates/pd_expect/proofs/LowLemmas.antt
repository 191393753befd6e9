-- What is left of the budget stays as it is up to the next change of a contract or of the budget.
use Rattle.std.proofs.Common.{◌≡◌, ℕ, zero, suc, ◌+◌, ◌*◌, ◌<◌, ◌≤◌, Bool, true, false, List, [], ◌∷◌, ◌++◌, Option}
use Rattle.std.proofs.Common.{Some, None, refl, sym, ap}
use Rattle.std.proofs.Common.{◌∙◌, arith, subst}
use Rattle.std.proofs.Common.{get_or, length, take}
use Rattle.std.proofs.lemmas.Bool.Decides.{nat_tests}
use Rattle.std.proofs.lemmas.List.{map-append, take_more}
use Rattle.std.proofs.lemmas.List.Sums.{sum_by-cons}
use Rattle.std.specs.Prelude.{◌==◌, ◌&&◌, IfSome, fold, map, min, nat_lt, is_some, sum, if◌then◌else◌}
use Rattle.std.specs.List.{AllByRecursion, cons_option, filter_map, last_or, range_with_len}
use Rattle.std.specs.Option.{option_map_or}
use Rattle.pd_objects.specs.declared.contract.Contract.{Contract}
use Rattle.pd_port.specs.declared.entry.ContractChange.{ContractChange}
use Rattle.pd_port.specs.declared.entry.ContractChange.TheVariants.{Made, Lost}
use Rattle.pd_scenario.specs.Plan.{Plan, budget_after, force, is_later, with_change}
use Rattle.pd_scenario.specs.declared.budget.BudgetChange.{BudgetChange}
use Rattle.pd_report.specs.LeastMargin.{margin_at}
use Rattle.pd_report.specs.Margins.{change_on, contracts_at, most_ports, power_left, power_on, up_to}
use Rattle.pd_report.specs.declared.least.Margin.{Margin}
use Rattle.pd_report.proofs.MarginLemmas.{all-append, all-mono, same-table}
use Rattle.pd_sweep.specs.Summaries.{left_by}
use Rattle.pd_expect.specs.Details.{times_of}
use Rattle.pd_expect.specs.Low.{StaysTo, lesser_of, sooner, soonest_with}
use Rattle.pd_expect.specs.OverTime.{IsSoonest, Moves, contract_at}
use Rattle.pd_expect.specs.declared.near.Sign.TheVariants as sign
use Rattle.pd_expect.proofs.SteadyLemmas.{same_tests, steady_changes}

sum_more : (f : ℕ → ℕ) (a n : ℕ) → sum (map f (range_with_len a (suc n))) ≡ sum (map f (range_with_len a n)) + f (a + n)
sum_more f a zero = let e : a + 0 ≡ a = omega arith in rw e (omega arith)
sum_more f a (suc n) =
    let e : a + 1 + n ≡ a + suc n = omega arith in
    let more : sum (map f (range_with_len (a + 1) (suc n))) ≡ sum (map f (range_with_len (a + 1) n)) + f (a + suc n) =
    sum_more f (a + 1) n ∙ ap (λ k. sum (map f (range_with_len (a + 1) n)) + f k) e in
    let all = sum_by-cons (λ x. x) (f a) (map f (range_with_len (a + 1) (suc n))) in
    let some = sum_by-cons (λ x. x) (f a) (map f (range_with_len (a + 1) n)) in
    omega (arith, more, all, some)

pub sum_next : (f : ℕ → ℕ) (n : ℕ) → sum (map f (range_with_len 1 (n + 1))) ≡ sum (map f (range_with_len 1 n)) + f (n + 1)
sum_next f n =
    let e : n + 1 ≡ suc n = omega arith in
    let k : 1 + n ≡ suc n = omega arith in
    rw e (sum_more f 1 n ∙ ap (λ i. sum (map f (range_with_len 1 n)) + f i) k)

-- the power of a contract is what its change has left
abbrev power_of : Option Contract → ℕ
power_of None = 0
power_of (Some c) = c.mv * c.ma

power_left_by : (change : Option ContractChange) (o : Option Contract) → o ≡ left_by None change →
    power_of o ≡ option_map_or power_left change 0
power_left_by None o e = ap power_of e
power_left_by (Some (Made c)) o e = ap power_of e
power_left_by (Some Lost) o e = ap power_of e

pub power_known : (port at : ℕ) (moves : Moves) (o : Option Contract) → o ≡ contract_at port at moves →
    power_of o ≡ power_on (up_to at moves) port
unfolding power_on
power_known port at moves o e = power_left_by (last_or None (filter_map (change_on port) (up_to at moves))) o e

-- the times of the changes of the budget
abbrev pub budget_times : List BudgetChange → List ℕ
budget_times changes = map (λ (c : BudgetChange). c.at) changes

-- ---- the soonest

soonest_more : (at : ℕ) (soonest : Option ℕ) (times : List ℕ) (u : ℕ) → IsSoonest times at soonest →
    IsSoonest (times ++ u ∷ []) at (soonest_with at soonest u)
soonest_more at soonest times u h = by_test (nat_lt at u) refl soonest h where
  later : (t : ℕ) → (at < t) × AllByRecursion (λ v. at < v → t ≤ v) times → (s : ℕ) → s ≤ t → at < s → (at < u → s ≤ u) →
      IsSoonest (times ++ u ∷ []) at (Some s)
  later t h s le after here = (
    after,
    all-append (λ v. at < v → s ≤ v) times (u ∷ [])
        (all-mono (λ v. at < v → t ≤ v) (λ v. at < v → s ≤ v) (λ v k l. let m : t ≤ v = k l in omega (arith, m, le)) times h.1) (here, tt),
  )

  by_test : (b : Bool) → nat_lt at u ≡ b → (o : Option ℕ) → IsSoonest times at o →
      IsSoonest (times ++ u ∷ []) at (if b then sooner o (Some u) else o)
  by_test true e None h =
      let after : at < u = grind (arith, nat_tests, e) in (
        after,
        all-append (λ v. at < v → u ≤ v) times (u ∷ [])
            (all-mono (λ v. v ≤ at) (λ v. at < v → u ≤ v) (λ v k l. absurd (omega (arith, k, l))) times h) ((λ l. omega arith), tt),
      )
  by_test true e (Some t) h =
      let after : at < u = grind (arith, nat_tests, e) in
      later t h (min t u) (omega arith) (omega (arith, h.0, after)) (λ l. omega arith)
  by_test false e None h =
      let before : u ≤ at = grind (arith, nat_tests, e) in
      all-append (λ v. v ≤ at) times (u ∷ []) h (before, tt)
  by_test false e (Some t) h =
      let before : u ≤ at = grind (arith, nat_tests, e) in
      later t h t (omega arith) h.0 (λ l. absurd (omega (arith, l, before)))

pub budget_seen : (at : ℕ) (cs : List BudgetChange) (i : ℕ) (c : BudgetChange) (old new : Option ℕ) → i < length cs →
    IsSoonest (budget_times (take i cs)) at old → new ≡ soonest_with at old (get_or cs i c).at →
    IsSoonest (budget_times (take (i + 1) cs)) at new
budget_seen at cs i c old new within h e =
    let taken : budget_times (take (i + 1) cs) ≡ budget_times (take i cs) ++ (get_or cs i c).at ∷ [] =
    ap budget_times (take_more cs i c within) ∙ map-append (λ (x : BudgetChange). x.at) (take i cs) (get_or cs i c ∷ []) in
    rw (taken, e) (soonest_more at old (budget_times (take i cs)) (get_or cs i c).at h)

-- ---- what stays

module _ (t s : ℕ) (le : t ≤ s) where
  -- none of these times is after the one instant and not after the other
  abbrev pub NoneBetween : List ℕ → Type 0
  NoneBetween = AllByRecursion (λ u. t < u → s < u)

  on_port : (port : ℕ) (moves : Moves) → NoneBetween (times_of sign.AnyChange moves) → NoneBetween (times_of (sign.Change port) moves)
  on_port port [] h = tt
  on_port port (m ∷ ms) h = by_tests (on_port port ms) (m.0 == port) (is_some m.1.contract) h where
    by_tests : (NoneBetween (times_of sign.AnyChange ms) → NoneBetween (times_of (sign.Change port) ms)) → (a b : Bool) →
        NoneBetween (cons_option (if b then Some m.1.at else None) (times_of sign.AnyChange ms)) →
        NoneBetween (cons_option (if a && b then Some m.1.at else None) (times_of (sign.Change port) ms))
    by_tests rest true true h = (h.0, rest h.1)
    by_tests rest true false h = rest h
    by_tests rest false true h = rest h.1
    by_tests rest false false h = rest h

  same_power : (moves : Moves) → NoneBetween (times_of sign.AnyChange moves) → (port : ℕ) →
      power_on (up_to s moves) port ≡ power_on (up_to t moves) port
  unfolding power_on
  same_power moves h port =
      ap (λ (cs : List ContractChange). option_map_or power_left (last_or None cs) 0)
      (steady_changes port t s le moves (on_port port moves h))

  same_contracts : (moves : Moves) → NoneBetween (times_of sign.AnyChange moves) → contracts_at moves s ≡ contracts_at moves t
  unfolding contracts_at
  same_contracts moves h = ap sum (same-table (power_on (up_to s moves)) (power_on (up_to t moves)) 1 most_ports (same_power moves h))

  same_last : (cs : List BudgetChange) (last : Option BudgetChange) → NoneBetween (budget_times cs) →
      fold (with_change s) last cs ≡ fold (with_change t) last cs
  same_last [] last h = refl
  same_last (c ∷ cs) last h =
      ap (λ b. fold (with_change s) (if b && is_later last c then Some c else last) cs) (same_tests 0 t s le c.at h.0)
      ∙ same_last cs (with_change t last c) h.1

  same_force : (plan : Plan) → NoneBetween (budget_times plan.forces) → force plan s ≡ force plan t
  unfolding force
  same_force plan h = ap (budget_after plan.budget) (same_last plan.forces None h)

  same_margin : (plan : Plan) (moves : Moves) → NoneBetween (times_of sign.AnyChange moves) → NoneBetween (budget_times plan.forces) →
      margin_at plan moves s ≡ margin_at plan moves t
  same_margin plan moves h k = rw (same_force plan k, same_contracts moves h) refl

-- before the soonest time after an instant there is none
none_between : (at s : ℕ) (o : Option ℕ) (times : List ℕ) → IsSoonest times at o → IfSome o (λ n. s < n) →
    AllByRecursion (λ u. at < u → s < u) times
none_between at s None times h k = all-mono (λ u. u ≤ at) (λ u. at < u → s < u) (λ u before l. absurd (omega (arith, before, l))) times h
none_between at s (Some n) times h k =
    all-mono (λ u. at < u → n ≤ u) (λ u. at < u → s < u) (λ u later l. let m : n ≤ u = later l in omega (arith, m, k)) times h.1

module _ (plan : Plan) (moves : Moves) (at : ℕ) where
  stays : (o p : Option ℕ) → IsSoonest (times_of sign.AnyChange moves) at o → IsSoonest (budget_times plan.forces) at p →
      (s : ℕ) → at ≤ s → IfSome o (λ n. s < n) → IfSome p (λ n. s < n) → margin_at plan moves s ≡ margin_at plan moves at
  stays o p h k s le a b =
      same_margin at s le plan moves (none_between at s o (times_of sign.AnyChange moves) h a)
      (none_between at s p (budget_times plan.forces) k b)

  pub stays_to : (o p : Option ℕ) → IsSoonest (times_of sign.AnyChange moves) at o → IsSoonest (budget_times plan.forces) at p →
      StaysTo plan moves at (sooner o p)
  stays_to None None h k = λ s le. stays None None h k s le tt tt
  stays_to (Some n) None h k = (h.0, λ s le before. stays (Some n) None h k s le before tt)
  stays_to None (Some m) h k = (k.0, λ s le before. stays None (Some m) h k s le tt before)
  stays_to (Some n) (Some m) h k =
      (omega (arith, h.0, k.0), λ s le before. stays (Some n) (Some m) h k s le (omega (arith, before)) (omega (arith, before)))

-- ---- the least

-- of the instants from one to another, as far as one before this; the first of them at the least
pub record IsLeastSoFar (plan : Plan) (moves : Moves) (from to at : ℕ) (least : Margin) : Type 0 where
  pub after_start : from ≤ least.at
  pub before_end : least.at ≤ to
  pub left_is : least.left ≡ margin_at plan moves least.at
  pub is_least : (t : ℕ) → from ≤ t → t < at → least.left ≤ margin_at plan moves t
  pub is_first : (t : ℕ) → from ≤ t → t < least.at → least.left < margin_at plan moves t

module _ (plan : Plan) (moves : Moves) (from at next : ℕ)
    (same : (t : ℕ) → at ≤ t → t < next → margin_at plan moves t ≡ margin_at plan moves at)
  where
    -- what holds of each instant before this one, and of this one, holds up to the next
    pub held_to : (P : ℕ → Type 0) → ((t : ℕ) → from ≤ t → t < at → P (margin_at plan moves t)) → P (margin_at plan moves at) →
        (t : ℕ) → from ≤ t → t < next → P (margin_at plan moves t)
    held_to P before here t le less = by_test (nat_lt t at) refl where
      by_test : (b : Bool) → nat_lt t at ≡ b → P (margin_at plan moves t)
      by_test true e = before t le (grind (arith, nat_tests, e))
      by_test false e = subst P (sym (same t (grind (arith, nat_tests, e)) less)) here

    pub least_seen : (to left : ℕ) (old : Margin) → from ≤ at → at ≤ to → left ≡ margin_at plan moves at →
        IsLeastSoFar plan moves from to at old → IsLeastSoFar plan moves from to next (lesser_of old (record { at = at; left = left }))
    least_seen to left old start end is h = by_test (nat_lt left old.left) refl where
      by_test : (b : Bool) → nat_lt left old.left ≡ b →
          IsLeastSoFar plan moves from to next (if b then record { at = at; left = left } else old)
      by_test true e =
          let less : left < old.left = grind (arith, nat_tests, e) in
          record {
            after_start = start;
            before_end = end;
            left_is = is;
            is_least =
                held_to (λ margin. left ≤ margin) (λ t le before. omega (arith, h.is_least t le before, less)) (omega (arith, is));
            is_first = λ t le before. omega (arith, h.is_least t le before, less);
          }
      by_test false e =
          let more : old.left ≤ left = grind (arith, nat_tests, e) in
          record {
            after_start = h.after_start;
            before_end = h.before_end;
            left_is = h.left_is;
            is_least = held_to (λ margin. old.left ≤ margin) h.is_least (omega (arith, is, more));
            is_first = h.is_first;
          }
