-- What is kept stands in the order of times.
use Rattle.std.proofs.Common.{◌≡◌, ◌+◌, All, ℕ, ◌<◌, ◌≤◌, ◌-◌, List, [], ◌∷◌, ◌++◌, length, map}
use Rattle.std.proofs.Common.{arith, get_or, zero, suc, ap}
use Rattle.std.proofs.lemmas.List.{get_or-map, length-map}
use Rattle.pd_run.specs.Order.{EachAfter}
use Rattle.pd_run.specs.Run.{Move, IsInOrder, NoneLater}
use Rattle.pd_keep.specs.Kept.{KeptData, move_of, AreInTime}

none_later-last : (t p : ℕ) (past : List Move) (m : Move) → NoneLater t p (past ++ m ∷ []) → m.due.time ≤ t
none_later-last t p [] m h = h.0.by_time
none_later-last t p (x ∷ xs) m h = none_later-last t p xs m h.1

none_later-front : (t p : ℕ) (past : List Move) (m : Move) → NoneLater t p (past ++ m ∷ []) → NoneLater t p past
none_later-front t p [] m h = tt
none_later-front t p (x ∷ xs) m h = (h.0, none_later-front t p xs m h.1)

none_later-at : (kept : List KeptData) (past : List Move) (j : ℕ) (e : KeptData) → EachAfter IsInOrder past (map move_of kept)
    → j < length kept → NoneLater (get_or kept j e).due.time ((get_or kept j e).port - 1) past
none_later-at [] past j e h lt = absurd (omega arith)
none_later-at (m ∷ ms) past zero e h lt = h.0
none_later-at (m ∷ ms) past (suc j) e h lt =
    none_later-front _ _ past (move_of m) (none_later-at ms (past ++ move_of m ∷ []) j e h.1 (omega arith))

pub times : (kept : List KeptData) (past : List Move) (i j : ℕ) (e : KeptData) → EachAfter IsInOrder past (map move_of kept) → i ≤ j
    → j < length kept → (get_or kept i e).due.time ≤ (get_or kept j e).due.time
times [] past i j e h le lt = absurd (omega arith)
times (m ∷ ms) past zero zero e h le lt = omega arith
times (m ∷ ms) past zero (suc j) e h le lt =
    none_later-last _ _ past (move_of m) (none_later-at ms (past ++ move_of m ∷ []) j e h.1 (omega arith))
times (m ∷ ms) past (suc i) zero e h le lt = absurd (omega arith)
times (m ∷ ms) past (suc i) (suc j) e h le lt = times ms (past ++ move_of m ∷ []) i j e h.1 (omega arith) (omega arith)

-- where the last move is before a time, all are
pub all_before : (old : List KeptData) (i t : ℕ) → AreInTime old → i + 1 ≡ length old
    → ((e : KeptData) → (get_or old i e).due.time < t) → All (λ m. m.due.time < t) (map move_of old)
all_before [] i t in_time last lt = λ k d inside. absurd (omega arith)
all_before (x ∷ xs) i t in_time last lt = λ k d inside.
    let count = length-map (x ∷ xs) move_of in
    let within : k < length (x ∷ xs) = omega (arith, count, inside) in
    let time : (get_or (map move_of (x ∷ xs)) k d).due.time ≡ (get_or (x ∷ xs) k x).due.time =
    ap (λ (m : Move). m.due.time) (get_or-map move_of (x ∷ xs) k x d within) in
    let le = in_time k i x (omega arith) (omega arith) in
    let first = lt x in
    omega (arith, time, le, first)
