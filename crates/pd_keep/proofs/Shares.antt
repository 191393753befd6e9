-- Ports that hold as much as an older run's, where both plans share alike.
use Rattle.std.proofs.Common.{◌≡◌, ⊎_elim, ℕ, ◌+◌, ◌-◌, ◌<◌, ◌≤◌, Bool, true, false, List, [], ◌∷◌, ◌++◌, length, map, All, IsTrue}
use Rattle.std.proofs.Common.{refl, ap, sym, ◌∙◌, subst, arith, get_or, take, slice_index_or, slice_set, zero, suc, option_map}
use Rattle.std.proofs.Common.{append_assoc}
use Rattle.std.specs.List.{range_with_len}
use Rattle.std.proofs.lemmas.Bool.{cases_Bool}
use Rattle.std.proofs.lemmas.List.{append-nil, length-map, take_more}
use Rattle.std.proofs.Math.ListN as list_map
use Rattle.pd_setup.specs.Settings.{SettingsData}
use Rattle.pd_port.specs.Port.{ask, hold}
use Rattle.pd_ledger.specs.Account.{Account}
use Rattle.pd_ledger.specs.Offer.{answer_of}
use Rattle.pd_scenario.specs.Plan.{Plan, count, settings_of}
use Rattle.pd_run.specs.Live.{LiveData, port_at}
use Rattle.pd_run.specs.Order.{EachAfter}
use Rattle.pd_run.specs.Run.{Move, GoesOn, IsAnswered, account_after, holds_after, standing}
use Rattle.pd_run.specs.Start.{no_port}
use Rattle.pd_run.specs.UpTo.{before}
use Rattle.pd_run.proofs.Alike.{same_map}
use Rattle.pd_run.proofs.Cut.{EachAfter-front}
use Rattle.pd_run.proofs.Follow.{IsFollowed, goes_at}
use Rattle.pd_run.proofs.Held.{held_on, quiet_on}
use Rattle.pd_keep.specs.Following.{CanFollow, HoldAlike, KeepHold}
use Rattle.pd_keep.specs.Kept.{KeptData, RunData, IsOwn, KeepsHold, held_by, move_of}
use Rattle.pd_keep.proofs.Asked.{hold_left}

-- What ports hold after one more move.

-- its port holds what it leaves
held_after : (plan : Plan) (past : List Move) (k : KeptData) → IsOwn plan k → GoesOn plan past (move_of k)
    → slice_set (holds_after plan past) (k.port - 1) (held_by k.after) ≡ holds_after plan (past ++ move_of k ∷ [])
held_after plan past k own goes =
    (held_on plan past (account_after plan past 0) (move_of k) k.port k.entry k.answer (held_by k.after) 0 (record {
      held = record { floors = refl; holds = refl };
      goes = goes;
      port_is = (let one = own.from_one in omega arith);
      entry_is = refl;
      answer_is = refl;
      left_is = hold_left plan k own;
    })).holds

-- which is as much as before where it keeps that
held_still : (plan : Plan) (past : List Move) (k : KeptData) → IsOwn plan k → GoesOn plan past (move_of k) → KeepsHold k
    → holds_after plan past ≡ holds_after plan (past ++ move_of k ∷ [])
held_still plan past k own goes keeps =
    (quiet_on plan past (account_after plan past 0) (move_of k) (record { floors = refl; holds = refl }) goes
    (sym (hold_left plan k own) ∙ keeps ∙ ap (λ (s : SettingsData). hold s k.before.port_record) own.settings)).holds

-- Both runs hold alike.

-- as the span begins
pub held_first : (n : ℕ) (a : Plan) (all : List Move) (old : RunData) (b : Plan) (past : List Move) (from : ℕ) (alike : List Bool)
    (share : Bool) (live : LiveData) → CanFollow n a all old b past from alike share live → IsTrue share
    → ((p : ℕ) → p < n → slice_index_or alike p false ≡ false → held_by (slice_index_or old.first p no_port) ≡ held_by (port_at live p))
    → HoldAlike a b from old.to (before from all) past
held_first n a all old b past from alike share live h known compared =
    let w = h.beside in
    let front : List Move = before from all in
    let counts : count a ≡ count b = w.is_plan.settings_count ∙ sym w.is_plan_too.settings_count in
    record {
      share = h.shares known;
      holds = same_map _ _ (count a) (λ p lt.
          let inside : p < n = omega (arith, lt, w.is_plan.settings_count) in
          ap held_by (sym (w.begun.ports p inside))
          ∙ ⊎_elim
          (λ (marked : slice_index_or alike p false ≡ true). ap held_by (h.known p inside marked).1)
          (λ (other : slice_index_or alike p false ≡ false). compared p inside other)
          (cases_Bool (slice_index_or alike p false))
          ∙ ap held_by (h.stands.ports_are p (omega (arith, lt, counts))))
          ∙ ap (λ c. map (λ p. hold (settings_of b p) (standing b past p).state) (range_with_len 0 c)) counts;
    }

-- after a move of the other run that keeps its port's hold
pub held_own : (a b : Plan) (from to : ℕ) (moves others : List Move) (k : KeptData) → HoldAlike a b from to moves others → IsOwn b k
    → GoesOn b others (move_of k) → KeepsHold k → HoldAlike a b from to moves (others ++ move_of k ∷ [])
held_own a b from to moves others k h own goes keeps =
    record { share = h.share; holds = h.holds ∙ held_still b others k own goes keeps }

-- the old run has one more move
one_old : (front : List Move) (moves : List KeptData) (i : ℕ) (d : KeptData) → i < length moves
    → (front ++ take i (map move_of moves)) ++ move_of (get_or moves i d) ∷ [] ≡ front ++ take (i + 1) (map move_of moves)
one_old front moves i d lt =
    ap (λ (m : Move). (front ++ take i (map move_of moves)) ++ m ∷ []) (sym (list_map.get_or-map move_of moves i d))
    ∙ append_assoc front (take i (map move_of moves)) (get_or (map move_of moves) i (move_of d) ∷ [])
    ∙ ap (λ (l : List Move). front ++ l) (sym (take_more (map move_of moves) i (move_of d)
    (let long = length-map moves move_of in omega arith)))

goes_old : (a b : Plan) (front rest : List Move) (moves : List KeptData) (to i : ℕ) (d : KeptData)
    → IsFollowed a b front (map move_of moves) rest to → i < length moves
    → GoesOn a (front ++ take i (map move_of moves)) (move_of (get_or moves i d))
goes_old a b front rest moves to i d f lt =
    subst (λ (m : Move). GoesOn a (front ++ take i (map move_of moves)) m) (list_map.get_or-map move_of moves i d)
    (goes_at a b front (map move_of moves) rest to i (move_of d) f (let long = length-map moves move_of in omega arith))

-- after a move of both
pub held_both : (a b : Plan) (front rest others : List Move) (moves : List KeptData) (from to i : ℕ) (d : KeptData)
    → IsFollowed a b front (map move_of moves) rest to → All (IsOwn a) moves → i < length moves
    → HoldAlike a b from to (front ++ take i (map move_of moves)) others → IsOwn b (slice_index_or moves i d)
    → GoesOn b others (move_of (slice_index_or moves i d))
    → HoldAlike a b from to (front ++ take (i + 1) (map move_of moves)) (others ++ move_of (slice_index_or moves i d) ∷ [])
held_both a b front rest others moves from to i d f own lt h own_too goes_too =
    let k : KeptData = get_or moves i d in
    let past : List Move = front ++ take i (map move_of moves) in
    record {
      share = h.share;
      holds = ap (holds_after a) (sym (one_old front moves i d lt))
          ∙ sym (held_after a past k (own i d lt) (goes_old a b front rest moves to i d f lt))
          ∙ ap (λ (l : List ℕ). slice_set l (k.port - 1) (held_by k.after)) h.holds
          ∙ held_after b others k own_too goes_too;
    }

-- after moves of the old run that keep their ports' holds
pub held_past : (a b : Plan) (front rest others : List Move) (moves : List KeptData) (from to i n : ℕ) (d : KeptData)
    → IsFollowed a b front (map move_of moves) rest to → All (IsOwn a) moves → i + n ≤ length moves → KeepHold moves i (i + n)
    → HoldAlike a b from to (front ++ take i (map move_of moves)) others
    → HoldAlike a b from to (front ++ take (i + n) (map move_of moves)) others
held_past a b front rest others moves from to i zero d f own le keep h =
    subst (λ j. HoldAlike a b from to (front ++ take j (map move_of moves)) others) (omega arith) h
held_past a b front rest others moves from to i (suc n) d f own le keep h =
    let j = i + n in
    let lt : j < length moves = omega arith in
    let k : KeptData = get_or moves j d in
    let past : List Move = front ++ take j (map move_of moves) in
    let on = held_past a b front rest others moves from to i n d f own (omega arith) (λ m e ge less. keep m e ge (omega arith)) h in
    let next : i + suc n ≡ j + 1 = omega arith in
    record {
      share = h.share;
      holds = ap (λ c. holds_after a (front ++ take c (map move_of moves))) next
          ∙ ap (holds_after a) (sym (one_old front moves j d lt))
          ∙ sym (held_still a past k (own j d lt) (goes_old a b front rest moves to j d f lt) (keep j d (omega arith) (omega arith)))
          ∙ on.holds;
    }

-- What is asked is answered alike.

-- what holds of each move with those before it holds of the one at a place
each_at : (P : List Move → Move → Type 0) (past moves : List Move) (i : ℕ) (d : Move) → EachAfter P past moves → i < length moves
    → P (past ++ take i moves) (get_or moves i d)
each_at P past [] i d h lt = absurd (omega arith)
each_at P past (m ∷ ms) zero d h lt = subst (λ (l : List Move). P l m) (sym (append-nil past)) h.0
each_at P past (m ∷ ms) (suc i) d h lt =
    subst (λ (l : List Move). P l (get_or ms i d)) (append_assoc past (m ∷ []) (take i ms))
    (each_at P (past ++ m ∷ []) ms i d h.1 (omega arith))

answered_old : (a b : Plan) (front mid rest : List Move) (to i : ℕ) (d : Move) → IsFollowed a b front mid rest to → i < length mid
    → IsAnswered a (front ++ take i mid) (get_or mid i d)
answered_old a b front mid rest to i d f lt =
    each_at (IsAnswered a) front mid i d (EachAfter-front (IsAnswered a) front mid rest f.left.answered) lt

-- the old run's move of this place has the answer that it had
pub answered_there : (a b : Plan) (front rest others : List Move) (moves : List KeptData) (from to i : ℕ) (d : KeptData)
    → IsFollowed a b front (map move_of moves) rest to → i < length moves
    → HoldAlike a b from to (front ++ take i (map move_of moves)) others
    → settings_of a ((slice_index_or moves i d).port - 1) ≡ settings_of b ((slice_index_or moves i d).port - 1)
    → from ≤ (slice_index_or moves i d).due.time → (slice_index_or moves i d).due.time < to
    → IsAnswered b others (move_of (slice_index_or moves i d))
answered_there a b front rest others moves from to i d f lt h settings late early =
    let mid : List Move = map move_of moves in
    let m : Move = move_of (get_or moves i d) in
    let long = length-map moves move_of in
    let t = m.due.time in
    let is : IsAnswered a (front ++ take i mid) m =
    subst (λ (x : Move). IsAnswered a (front ++ take i mid) x) (list_map.get_or-map move_of moves i d)
    (answered_old a b front mid rest to i (move_of d) f (omega arith)) in
    let account : account_after a (front ++ take i mid) t ≡ account_after b others t =
    λ j. record { budget = h.share.budget t late early j; floors = h.share.floors j; holds = h.holds j } in
    is ∙ ap (λ (l : Account). option_map (answer_of l m.port) (ask (settings_of a m.port) m.before m.due)) account
    ∙ ap (λ (s : SettingsData). option_map (answer_of (account_after b others t) m.port) (ask s m.before m.due)) settings
