-- There is one count of fresh moves, and a plan that is run again has none.
use Rattle.std.proofs.Common.{◌≡◌, ℕ, ◌+◌, ⊎_elim, List, [], ◌∷◌, None, Some, refl, sym, ◌∙◌, subst, arith, suc, Contains}
use Rattle.pd_scenario.specs.Plan.{Plan}
use Rattle.pd_run.specs.Run.{Move}
use Rattle.pd_run.proofs.OneRun.{run_unique}
use Rattle.pd_keep.specs.Fresh.{IsRepeated, AreFresh, OneCount, NoneFreshAgain}

one : (old_plan : Plan) (old : List Move) (plan : Plan) (ms : List Move) (a b : ℕ) → AreFresh old_plan old plan ms a
    → AreFresh old_plan old plan ms b → a ≡ b
one old_plan old plan [] a b h g = h ∙ sym g
one old_plan old plan (m ∷ ms) a b h g =
    ⊎_elim
    (λ (w : IsRepeated old_plan old plan m × AreFresh old_plan old plan ms a).
    ⊎_elim
    (λ (v : IsRepeated old_plan old plan m × AreFresh old_plan old plan ms b). one old_plan old plan ms a b w.1 v.1)
    (λ (v : (IsRepeated old_plan old plan m → ⊥) × ((k : ℕ) × (b ≡ k + 1) × AreFresh old_plan old plan ms k)). absurd (v.0 w.0))
    g)
    (λ (w : (IsRepeated old_plan old plan m → ⊥) × ((k : ℕ) × (a ≡ k + 1) × AreFresh old_plan old plan ms k)).
    ⊎_elim
    (λ (v : IsRepeated old_plan old plan m × AreFresh old_plan old plan ms b). absurd (w.0 v.0))
    (λ (v : (IsRepeated old_plan old plan m → ⊥) × ((k : ℕ) × (b ≡ k + 1) × AreFresh old_plan old plan ms k)).
    omega (arith, w.1.1, v.1.1, one old_plan old plan ms w.1.0 v.1.0 w.1.2 v.1.2))
    g)
    h

pub one_count : OneCount
one_count None old_moves plan moves a b h g = h ∙ sym g
one_count (Some old_plan) old_moves plan moves a b h g = one old_plan old_moves plan moves a b h g

none : (plan : Plan) (old ms : List Move) (n : ℕ) → ((m : Move) → Contains ms m → Contains old m) → AreFresh plan old plan ms n → n ≡ 0
none plan old [] n has h = h
none plan old (m ∷ ms) n has h =
    ⊎_elim
    (λ (w : IsRepeated plan old plan m × AreFresh plan old plan ms n). none plan old ms n
    (λ x at. has x (suc at.0, omega (arith, at.1), at.2)) w.1)
    (λ (w : (IsRepeated plan old plan m → ⊥) × ((k : ℕ) × (n ≡ k + 1) × AreFresh plan old plan ms k)).
    absurd (w.0 (m, has m (0, omega arith, refl), record { port = refl; before = refl; settings = refl; due = refl; answer = refl })))
    h

pub none_fresh_again : NoneFreshAgain
none_fresh_again plan old moves n run again h =
    let same : old ≡ moves = run_unique plan old moves run again in
    none plan old moves n (λ m at. subst (λ (l : List Move). Contains l m) (sym same) at) h
