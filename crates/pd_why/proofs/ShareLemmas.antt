-- Facts on how the budget is shared.
use Rattle.std.proofs.Common.{◌≡◌, ◌≢◌, ◌==◌, ℕ, zero, suc, ◌+◌, ◌-◌, ◌<◌, ◌≤◌, cond, max, List, [], ◌∷◌, ◌++◌, map, length, sum}
use Rattle.std.proofs.Common.{get_or, slice_index, slice_set, refl, ap, sym, ◌∙◌, arith, length-append, ⊎_elim}
use Rattle.std.specs.List.{range_with_len}
use Rattle.std.proofs.lemmas.Bool.{cases_eq}
use Rattle.std.proofs.lemmas.Bool.Decides.{nat_tests}
use Rattle.std.proofs.Math.ListN as list_map
use Rattle.std.proofs.Math.ListN.{length-set}
use Rattle.std.proofs.lemmas.List.{get_or-set_same, get_or-set_other}
use Rattle.std.proofs.lemmas.List.FromFn.{fill_by_all, get_or-map-range_with_len, length-map-range_with_len, sum_by-map-range_with_len_more}
use Rattle.pd_ledger.specs.Account.{free_of}
use Rattle.pd_setup.specs.Settings.{floor_of}
use Rattle.pd_scenario.specs.Plan.{Plan, count, floors_of, force, no_settings, settings_of}
use Rattle.pd_run.specs.Run.{Move, account_after, holds_after}
use Rattle.pd_run.specs.Live.{LiveData, StandsAfter, port_after, port_at}
use Rattle.pd_port.specs.Port.{PortData, hold}
use Rattle.arrayvec.specs.ArrayVec.{ArrayVec}
use Rattle.pd_why.specs.declared.holder.Holder.{Holder}
use Rattle.pd_why.specs.declared.look.Share.{Share}
use Rattle.pd_why.specs.Looks.{share_at}
use Rattle.pd_why.specs.Holds.{hold_beside, holder_of, left_of, other, others}

few_other : (at : ℕ → PortData) (p q : ℕ) → length (other at p q) ≤ 1
few_other at p q = grind (arith, nat_tests)

-- no more ports than were gone through
pub few_others : (at : ℕ → PortData) (p n : ℕ) → length (others at p n) ≤ n
few_others at p zero = omega arith
few_others at p (suc n) =
    omega (arith, length-append (others at p n) (other at p n), few_others at p n, few_other at p n)

other_same : (f g : ℕ → PortData) (p q : ℕ) → f q ≡ g q → other f p q ≡ other g p q
other_same f g p q e = ap (λ (d : PortData). cond (q == p) [] (holder_of (q + 1) d ∷ [])) e

-- the same ports hold the same
pub others_same : (f g : ℕ → PortData) (p n : ℕ) → ((q : ℕ) → q < n → f q ≡ g q) → others f p n ≡ others g p n
others_same f g p zero h = refl
others_same f g p (suc n) h =
    ap (λ (v : List Holder). v ++ other f p n) (others_same f g p n (λ q lt. h q (omega arith)))
    ∙ ap (λ (v : List Holder). others g p n ++ v) (other_same f g p n (h n (omega arith)))

pub left_same : (f g : ℕ → PortData) (budget p n : ℕ) → ((q : ℕ) → q < n → f q ≡ g q) → left_of budget f p n ≡ left_of budget g p n
left_same f g budget p zero h = refl
left_same f g budget p (suc n) h =
    ap (λ v. v - hold_beside f p n) (left_same f g budget p n (λ q lt. h q (omega arith)))
    ∙ ap (λ (d : PortData). left_of budget g p n - cond (n == p) 0 (hold d.settings d.port_record)) (h n (omega arith))

abbrev beside : (ℕ → ℕ) → ℕ → ℕ → ℕ
beside h p q = cond (q == p) 0 (h q)

own_beside : (h : ℕ → ℕ) (p q : ℕ) → q ≡ p → beside h p q ≡ 0
own_beside h p q e = grind (arith, nat_tests)

other_beside : (h : ℕ → ℕ) (p q : ℕ) → q ≢ p → beside h p q ≡ h q
other_beside h p q e = grind (arith, nat_tests)

-- the holds with that of one port left out
without_own : (h : ℕ → ℕ) (p n : ℕ) → p < n → slice_set (map h (range_with_len 0 n)) p 0 ≡ map (beside h p) (range_with_len 0 n)
without_own h p n known =
    let xs : List ℕ = map h (range_with_len 0 n) in
    let long : length xs ≡ n = length-map-range_with_len h 0 n in
    fill_by_all (beside h p) (slice_set xs p 0) n 0 (length-set xs p 0 ∙ long)
    (λ k lt. ⊎_elim
    (λ (same : k ≡ p). ap (λ j. get_or (slice_set xs p 0) j 0) same ∙ get_or-set_same xs p 0 0 (omega arith)
    ∙ sym (own_beside h p k same))
    (λ (else : k ≢ p). get_or-set_other xs p k 0 0 else ∙ get_or-map-range_with_len h 0 n k k 0 lt (omega arith)
    ∙ sym (other_beside h p k else))
    (cases_eq k p))

left_is : (at : ℕ → PortData) (budget p n : ℕ) → left_of budget at p n ≡ budget - sum (map (hold_beside at p) (range_with_len 0 n))
left_is at budget p zero = omega arith
left_is at budget p (suc n) =
    let more = sum_by-map-range_with_len_more (λ (x : ℕ). x) (hold_beside at p) 0 n n (omega arith) in
    let before = left_is at budget p n in
    let next : n + 1 ≡ suc n = omega arith in
    let all : sum (map (hold_beside at p) (range_with_len 0 (suc n)))
    ≡ sum (map (hold_beside at p) (range_with_len 0 n)) + hold_beside at p n =
    ap (λ k. sum (map (hold_beside at p) (range_with_len 0 k))) (sym next) ∙ more in
    omega arith

-- what is free by the ledger's rule is what the others leave, and at least the floor
pub free_is : (plan : Plan) (past : List Move) (live : LiveData) (p at n floor budget : ℕ) → StandsAfter plan past live → n ≡ count plan →
    p < n → floor ≡ floor_of (settings_of plan p) → budget ≡ force plan at →
    max (left_of budget (port_at live) p n) floor ≡ free_of (account_after plan past at) p
free_is plan past live p at n floor budget stands e known f b =
    let then : ℕ → PortData = port_after plan past in
    let h : ℕ → ℕ = λ q. hold (then q).settings (then q).port_record in
    let same = left_same (port_at live) then budget p n (λ q lt. stands.ports_are q (omega arith)) in
    let left = left_is then budget p n in
    let holds : sum (slice_set (holds_after plan past) p 0) ≡ sum (map (hold_beside then p) (range_with_len 0 n)) =
    ap (λ k. sum (slice_set (map h (range_with_len 0 k)) p 0)) (sym e) ∙ ap sum (without_own h p n known) in
    let floors : slice_index (floors_of plan) p ≡ floor_of (settings_of plan p) =
    list_map.get_or-map floor_of plan.settings p no_settings in
    omega arith

-- how the budget is shared, by the ports as they stand
pub share_is : (plan : Plan) (past : List Move) (live : LiveData) (p at n floor budget free left : ℕ) (beside : ArrayVec Holder) →
    StandsAfter plan past live → n ≡ count plan → p < n → floor ≡ floor_of (settings_of plan p) → budget ≡ force plan at →
    left ≡ left_of budget (port_at live) p n → free ≡ max left floor → beside.items ≡ others (port_at live) p n →
    record { budget = budget; free = free; others = beside } ≡ share_at plan past p at
unfolding share_at
share_is plan past live p at n floor budget free left beside stands e known f b l m o =
    let make : ℕ → ℕ → List Holder → Share = λ x y z. record { budget = x; free = y; others = record { items = z } } in
    let is_free = free_is plan past live p at n floor budget stands e known f b in
    let then : ℕ → PortData = port_after plan past in
    let same : beside.items ≡ others then p (count plan) =
    o ∙ others_same (port_at live) then p n (λ q lt. stands.ports_are q (omega arith)) ∙ ap (others then p) e in
    let given : free ≡ free_of (account_after plan past at) p = m ∙ ap (λ v. max v floor) l ∙ is_free in
    ap (λ v. make v free beside.items) b ∙ ap (λ v. make (force plan at) v beside.items) given
    ∙ ap (λ v. make (force plan at) (free_of (account_after plan past at) p) v) same

-- one more port
pub others_more : (at : ℕ → PortData) (p n : ℕ) (xs ys : List Holder) → xs ≡ others at p n → ys ≡ xs ++ other at p n
    → ys ≡ others at p (n + 1)
others_more at p n xs ys e more =
    let next : suc n ≡ n + 1 = omega arith in more ∙ ap (λ (v : List Holder). v ++ other at p n) e ∙ ap (others at p) next

pub left_more : (at : ℕ → PortData) (budget p n left next : ℕ) → left ≡ left_of budget at p n → next ≡ left - hold_beside at p n
    → next ≡ left_of budget at p (n + 1)
left_more at budget p n left next e less =
    let more : suc n ≡ n + 1 = omega arith in less ∙ ap (λ v. v - hold_beside at p n) e ∙ ap (left_of budget at p) more
