-- What one more move changes.
use Rattle.std.proofs.Common.{◌≡◌, ◌≢◌, ℕ, List, [], ◌∷◌, ◌++◌, refl, ap, sym, ◌∙◌, subst, arith, cond, eqb, append_assoc}
use Rattle.std.proofs.lemmas.List.{append-nil}
use Rattle.std.proofs.lemmas.Bool.Decides.{nat_tests}
use Rattle.pd_scenario.specs.Plan.{Plan}
use Rattle.pd_run.specs.Order.{EachAfter, IsNoLater}
use Rattle.pd_run.specs.Run.{Move, Standing, standing_from, standing, moved, at_start, IsInOrder, NoneLater, due_after, due_from}

-- where a port stands after one more move
pub standing_from-push : (plan : Plan) (s : Standing) (ms : List Move) (m : Move) (p : ℕ)
    → standing_from plan s (ms ++ m ∷ []) p ≡ cond (eqb m.port p) (moved plan (standing_from plan s ms p) m) (standing_from plan s ms p)
standing_from-push plan s [] m p = refl
standing_from-push plan s (x ∷ xs) m p = standing_from-push plan (cond (eqb x.port p) (moved plan s x) s) xs m p

if_same : {X : Type 0} (a b : ℕ) (x y : X) → a ≡ b → cond (eqb a b) x y ≡ x
if_same a b x y e = grind (arith, nat_tests)

if_other : {X : Type 0} (a b : ℕ) (x y : X) → a ≢ b → cond (eqb a b) x y ≡ y
if_other a b x y e = grind (arith, nat_tests)

-- a move moves its own port
pub standing-same : (plan : Plan) (past : List Move) (m : Move) (p : ℕ) → m.port ≡ p
    → standing plan (past ++ m ∷ []) p ≡ moved plan (standing plan past p) m
standing-same plan past m p e = standing_from-push plan (at_start plan p) past m p ∙ if_same _ _ _ _ e

-- and no other
pub standing-other : (plan : Plan) (past : List Move) (m : Move) (p : ℕ) → m.port ≢ p
    → standing plan (past ++ m ∷ []) p ≡ standing plan past p
standing-other plan past m p e = standing_from-push plan (at_start plan p) past m p ∙ if_other _ _ _ _ e

pub due_after-other : (plan : Plan) (past : List Move) (m : Move) (p : ℕ) → m.port ≢ p
    → due_after plan (past ++ m ∷ []) p ≡ due_after plan past p
due_after-other plan past m p e = ap (λ s. due_from plan s p) (standing-other plan past m p e)

-- one more member
pub EachAfter-push : {X : Type 0} (P : List X → X → Type 0) (past xs : List X) (x : X) → EachAfter P past xs → P (past ++ xs) x
    → EachAfter P past (xs ++ x ∷ [])
EachAfter-push {X} P past [] x h p = (subst (λ (l : List X). P l x) (append-nil past) p, tt)
EachAfter-push {X} P past (y ∷ ys) x h p =
    (h.0, EachAfter-push P (past ++ y ∷ []) ys x h.1 (subst (λ (l : List X). P l x) (sym (append_assoc past (y ∷ []) ys)) p))

-- a move among the earlier ones isn't later than the next
pub in_order-member : (past more : List Move) (x m : Move) → IsInOrder ((past ++ x ∷ []) ++ more) m
    → IsNoLater x.due.time x.port m.due.time m.port
in_order-member [] more x m h = h.0
in_order-member (y ∷ ys) more x m h = in_order-member ys more x m h.1

pub no_later-trans : (t p u q v r : ℕ) → IsNoLater t p u q → IsNoLater u q v r → IsNoLater t p v r
no_later-trans t p u q v r h k = record {
  by_time = omega (arith, h.by_time, k.by_time);
  by_port = λ e. omega (arith, h.by_time, h.by_port, k.by_time, k.by_port);
}

-- moves that aren't later than one time and port aren't later than a later one
pub none_later-raise : (t p u q : ℕ) (moves : List Move) → IsNoLater t p u q → NoneLater t p moves → NoneLater u q moves
none_later-raise t p u q [] le h = tt
none_later-raise t p u q (m ∷ ms) le h = (no_later-trans _ _ _ _ _ _ h.0 le, none_later-raise t p u q ms le h.1)

pub none_later-push : (t p : ℕ) (moves : List Move) (m : Move) → NoneLater t p moves → IsNoLater m.due.time m.port t p
    → NoneLater t p (moves ++ m ∷ [])
none_later-push t p [] m h le = (le, tt)
none_later-push t p (x ∷ xs) m h le = (h.0, none_later-push t p xs m h.1 le)
