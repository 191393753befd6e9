-- Runs that are kept in spans.
use Rattle.std.proofs.Common.{◌≡◌, ◌≢◌, ⊎_elim, ℕ, zero, suc, ◌<◌, ◌≤◌, List, [], ◌∷◌, ◌++◌, length, map, take, drop}
use Rattle.std.proofs.Common.{All, Contains, Some, None, slice_get, refl, ap, sym, ◌∙◌, subst, arith, append_assoc}
use Rattle.std.proofs.lemmas.List.{append-nil, append_cancel_left, map-append, length_push, length-map, take_all, take_at, take-append-le}
use Rattle.std.proofs.lemmas.List.{flat_map_more}
use Rattle.std.proofs.lemmas.List.Elements.{Contains-append_left, Contains-append_right, Contains-append_cases}
use Rattle.std.proofs.Math.ListN as list_map
use Rattle.std.proofs.lemmas.Bool.{cases_eq}
use Rattle.std.proofs.lemmas.Option.{same_Some, slice_get_within}
use Rattle.pd_scenario.specs.Plan.{Plan}
use Rattle.pd_run.specs.Order.{EachAfter}
use Rattle.pd_run.specs.Run.{Move, IsInOrder}
use Rattle.pd_run.specs.UpTo.{before, IsUpTo}
use Rattle.pd_run.proofs.Cut.{All-append, All-front, All-back, EachAfter-front, EachAfter-back, before-all, before-none, before-append}
use Rattle.pd_run.proofs.Cut.{cut_from, ends_up_to, run_is_safe}
use Rattle.pd_keep.specs.Kept.{KeptData, move_of, IsOwn, IsMade, AreInTime}
use Rattle.pd_keep.specs.Kept.{RunData}
use Rattle.pd_keep.specs.Spans.{kept_of_spans, moves_of, end_of, begins_at, BeginsAfter, IsKept}
use Rattle.pd_keep.specs.Rerun.{IsSoFar, IsNextSpan, AreThose}
use Rattle.pd_keep.proofs.InTime.{times}

span_moves : RunData → List KeptData
span_moves s = s.moves

-- one more span
pub kept_push : (spans : List RunData) (s : RunData) → kept_of_spans (spans ++ s ∷ []) ≡ kept_of_spans spans ++ s.moves
unfolding span_moves
kept_push spans s = sym (flat_map_more span_moves [] spans s)

pub moves_push : (spans : List RunData) (s : RunData) → moves_of (spans ++ s ∷ []) ≡ moves_of spans ++ map move_of s.moves
moves_push spans s = ap (map move_of) (kept_push spans s) ∙ map-append move_of (kept_of_spans spans) s.moves

pub get_push_last : {X : Type 0} (xs : List X) (x y : X) (k : ℕ) → k ≡ length xs → slice_get (xs ++ x ∷ []) k ≡ Some y → x ≡ y
get_push_last [] x y zero e h = same_Some _ _ h
get_push_last [] x y (suc k) e h = absurd (omega arith)
get_push_last (z ∷ zs) x y zero e h = absurd (omega arith)
get_push_last (z ∷ zs) x y (suc k) e h = get_push_last zs x y k (omega arith) h

pub get_push_other : {X : Type 0} (xs : List X) (x : X) (k : ℕ) → k < length xs → slice_get (xs ++ x ∷ []) k ≡ slice_get xs k
get_push_other [] x k lt = absurd (omega arith)
get_push_other (z ∷ zs) x zero lt = refl
get_push_other (z ∷ zs) x (suc k) lt = get_push_other zs x k (omega arith)

-- the moves before a span, its own, and those behind it
pub kept_next : (spans : List RunData) (k : ℕ) (s : RunData) → slice_get spans k ≡ Some s
    → kept_of_spans (take (suc k) spans) ≡ kept_of_spans (take k spans) ++ s.moves
kept_next [] k s e = absurd (let h : None ≡ Some s = e in cc)
kept_next (t ∷ ts) zero s e =
    append-nil t.moves ∙ ap span_moves' (same_Some t s e) where
      span_moves' : RunData → List KeptData
      span_moves' x = x.moves
kept_next (t ∷ ts) (suc k) s e =
    ap (λ (l : List KeptData). t.moves ++ l) (kept_next ts k s e) ∙ sym (append_assoc t.moves (kept_of_spans (take k ts)) s.moves)

pub kept_split : (spans : List RunData) (k : ℕ) (s : RunData) → slice_get spans k ≡ Some s
    → kept_of_spans spans ≡ (kept_of_spans (take k spans) ++ s.moves) ++ kept_of_spans (drop (suc k) spans)
kept_split [] k s e = absurd (let h : None ≡ Some s = e in cc)
kept_split (t ∷ ts) zero s e = ap (λ (x : RunData). x.moves ++ kept_of_spans ts) (same_Some t s e)
kept_split (t ∷ ts) (suc k) s e =
    ap (λ (l : List KeptData). t.moves ++ l) (kept_split ts k s e)
    ∙ sym (append_assoc t.moves (kept_of_spans (take k ts) ++ s.moves) (kept_of_spans (drop (suc k) ts)))
    ∙ ap (λ (l : List KeptData). l ++ kept_of_spans (drop (suc k) ts)) (sym (append_assoc t.moves (kept_of_spans (take k ts)) s.moves))

pub moves_next : (spans : List RunData) (k : ℕ) (s : RunData) → slice_get spans k ≡ Some s
    → moves_of (take (suc k) spans) ≡ moves_of (take k spans) ++ map move_of s.moves
moves_next spans k s e = ap (map move_of) (kept_next spans k s e) ∙ map-append move_of (kept_of_spans (take k spans)) s.moves

-- When spans end.

pub end_push : (from : ℕ) (spans : List RunData) (s : RunData) → end_of from (spans ++ s ∷ []) ≡ s.to
end_push from [] s = refl
end_push from (t ∷ ts) s = end_push t.to ts s

pub end_next : (from : ℕ) (spans : List RunData) (k : ℕ) (s : RunData) → slice_get spans k ≡ Some s
    → end_of from (take (suc k) spans) ≡ s.to
end_next from [] k s e = absurd (let h : None ≡ Some s = e in cc)
end_next from (t ∷ ts) zero s e = ap (λ (x : RunData). x.to) (same_Some t s e)
end_next from (t ∷ ts) (suc k) s e = end_next t.to ts k s e

-- the spans before a place are the same with one more span
begins_front : (spans : List RunData) (s : RunData) (k : ℕ) → k ≤ length spans → begins_at (spans ++ s ∷ []) k ≡ begins_at spans k
begins_front spans s k le = ap (end_of 0) (take-append-le k spans (s ∷ []) le)

-- A run as far as it has come, with one more span.

-- times of moves that stand in a range
later_yet : (from to : ℕ) (moves : List Move) → from ≤ to → All (λ m. to ≤ m.due.time) moves → All (λ m. from ≤ m.due.time) moves
later_yet from to moves le h = λ k d lt. let e = h k d lt in omega arith

parted_push : (n : ℕ) (plan : Plan) (spans : List RunData) (s : RunData) (at k : ℕ) → IsSoFar n plan spans at
    → IsNextSpan n plan (moves_of spans) at s → k ≤ length (spans ++ s ∷ [])
    → before (begins_at (spans ++ s ∷ []) k) (moves_of (spans ++ s ∷ [])) ≡ moves_of (take k (spans ++ s ∷ []))
parted_push n plan spans s at k far next le =
    let count = length_push spans s in
    let old : List Move = moves_of spans in
    let mid : List Move = map move_of s.moves in
    let all : List RunData = spans ++ s ∷ [] in
    ⊎_elim
    (λ (last : k ≡ length (spans ++ s ∷ [])).
    let whole : take k all ≡ all = take_all k all (omega arith) in
    let time : begins_at all k ≡ s.to = ap (end_of 0) whole ∙ end_push 0 spans s in
    let early : All (λ m. m.due.time < begins_at all k) (old ++ mid) = λ i d lt. let e = next.up.earlier i d lt in omega (arith, e, time) in
    ap (before (begins_at all k)) (moves_push spans s) ∙ before-all (begins_at all k) (old ++ mid) early ∙ sym (moves_push spans s)
    ∙ ap moves_of (sym whole))
    (λ (other : k ≢ length (spans ++ s ∷ [])).
    let inside : k ≤ length spans = omega arith in
    let within : begins_at spans k ≤ at = far.within k inside in
    let late = later_yet (begins_at spans k) at mid within next.later in
    ap (λ t. before t (moves_of all)) (begins_front spans s k inside) ∙ ap (before (begins_at spans k)) (moves_push spans s)
    ∙ before-append (begins_at spans k) old mid
    ∙ ap (λ (l : List Move). before (begins_at spans k) old ++ l) (before-none (begins_at spans k) mid late)
    ∙ append-nil (before (begins_at spans k) old) ∙ far.spanned.parted k inside
    ∙ ap moves_of (sym (take-append-le k spans (s ∷ []) inside)))
    (cases_eq k (length (spans ++ s ∷ [])))

rising_push : (n : ℕ) (plan : Plan) (spans : List RunData) (s : RunData) (at k : ℕ) (x : RunData) → IsSoFar n plan spans at
    → IsNextSpan n plan (moves_of spans) at s → slice_get (spans ++ s ∷ []) k ≡ Some x → begins_at (spans ++ s ∷ []) k < x.to
rising_push n plan spans s at k x far next e =
    let within = slice_get_within (spans ++ s ∷ []) k x e in
    let count = length_push spans s in
    ⊎_elim
    (λ (last : k ≡ length spans).
    let is : s ≡ x = get_push_last spans s x k last e in
    let time : begins_at (spans ++ s ∷ []) k ≡ at = ap (end_of 0) (take_at spans (s ∷ []) k (sym last)) ∙ sym far.at_is in
    let rising : at < x.to = subst (λ (y : RunData). at < y.to) is next.rising in
    omega (arith, time, rising))
    (λ (other : k ≢ length spans).
    let inside : k < length spans = omega arith in
    let time = begins_front spans s k (omega arith) in
    let rising : begins_at spans k < x.to = far.spanned.rising k x (sym (get_push_other spans s k inside) ∙ e) in
    omega (arith, time, rising))
    (cases_eq k (length spans))

within_push : (n : ℕ) (plan : Plan) (spans : List RunData) (s : RunData) (at k : ℕ) → IsSoFar n plan spans at
    → IsNextSpan n plan (moves_of spans) at s → k ≤ length (spans ++ s ∷ []) → begins_at (spans ++ s ∷ []) k ≤ s.to
within_push n plan spans s at k far next le =
    let count = length_push spans s in
    ⊎_elim
    (λ (last : k ≡ length (spans ++ s ∷ [])).
    let time : begins_at (spans ++ s ∷ []) k ≡ s.to = ap (end_of 0) (take_all k (spans ++ s ∷ []) (omega arith)) ∙ end_push 0 spans s in
    omega (arith, time))
    (λ (other : k ≢ length (spans ++ s ∷ [])).
    let inside : k ≤ length spans = omega arith in
    let time = begins_front spans s k inside in
    let within : begins_at spans k ≤ at = far.within k inside in
    let rising = next.rising in
    omega (arith, time, within, rising))
    (cases_eq k (length (spans ++ s ∷ [])))

needed_push : (n : ℕ) (plan : Plan) (spans : List RunData) (s : RunData) (at k : ℕ) → IsSoFar n plan spans at → at ≤ plan.end
    → k < length (spans ++ s ∷ []) → begins_at (spans ++ s ∷ []) k ≤ plan.end
needed_push n plan spans s at k far soon lt =
    let count = length_push spans s in
    let time = begins_front spans s k (omega arith) in
    let within : begins_at spans k ≤ at = far.within k (omega arith) in
    omega (arith, time, within, soon)

begun_push : (n : ℕ) (plan : Plan) (spans : List RunData) (s : RunData) (at k : ℕ) (x : RunData) → IsSoFar n plan spans at
    → IsNextSpan n plan (moves_of spans) at s → slice_get (spans ++ s ∷ []) k ≡ Some x
    → BeginsAfter n plan (moves_of (take k (spans ++ s ∷ []))) x
begun_push n plan spans s at k x far next e =
    let within = slice_get_within (spans ++ s ∷ []) k x e in
    let count = length_push spans s in
    ⊎_elim
    (λ (last : k ≡ length spans).
    let is : s ≡ x = get_push_last spans s x k last e in
    let front : take k (spans ++ s ∷ []) ≡ spans = take_at spans (s ∷ []) k (sym last) in
    subst (λ (l : List RunData). BeginsAfter n plan (moves_of l) x) (sym front)
    (subst (λ (y : RunData). BeginsAfter n plan (moves_of spans) y) is next.begun))
    (λ (other : k ≢ length spans).
    let inside : k < length spans = omega arith in
    let front : take k (spans ++ s ∷ []) ≡ take k spans = take-append-le k spans (s ∷ []) (omega arith) in
    subst (λ (l : List RunData). BeginsAfter n plan (moves_of l) x) (sym front)
    (far.spanned.begun k x (sym (get_push_other spans s k inside) ∙ e)))
    (cases_eq k (length spans))

pub so_far_push : (n : ℕ) (plan : Plan) (spans : List RunData) (s : RunData) (at : ℕ) → IsSoFar n plan spans at → at ≤ plan.end
    → IsNextSpan n plan (moves_of spans) at s → IsSoFar n plan (spans ++ s ∷ []) s.to
so_far_push n plan spans s at far soon next = record {
  is_plan = far.is_plan;
  up = subst (λ (l : List Move). IsUpTo plan l s.to) (sym (moves_push spans s)) next.up;
  own = subst (λ (l : List KeptData). All (IsOwn plan) l) (sym (kept_push spans s))
      (All-append (IsOwn plan) (kept_of_spans spans) s.moves far.own next.own);
  spanned = record {
    parted = λ k le. parted_push n plan spans s at k far next le;
    begun = λ k x e. begun_push n plan spans s at k x far next e;
    rising = λ k x e. rising_push n plan spans s at k x far next e;
  };
  at_is = sym (end_push 0 spans s);
  within = λ k le. within_push n plan spans s at k far next le;
  needed = λ k lt. needed_push n plan spans s at k far soon lt;
}

-- beyond the end it is the whole run
pub kept_whole : (n : ℕ) (plan : Plan) (spans : List RunData) (at : ℕ) → IsSoFar n plan spans at → plan.end < at → IsKept n plan spans
kept_whole n plan spans at far past = record {
  is_plan = far.is_plan;
  safe = run_is_safe n plan (moves_of spans) far.is_plan (ends_up_to plan (moves_of spans) at past far.up);
  own = far.own;
  spanned = far.spanned;
  reach = record { beyond = (let e = far.at_is in omega arith); needed = far.needed };
}

-- What is kept in one span of a run.

pub record InSpan (n : ℕ) (plan : Plan) (spans : List RunData) (k : ℕ) (s : RunData) : Type 0 where
  pub is_before : before (begins_at spans k) (moves_of spans) ≡ moves_of (take k spans)
  pub is_next : before s.to (moves_of spans) ≡ before (begins_at spans k) (moves_of spans) ++ map move_of s.moves
  pub rising : begins_at spans k < s.to
  pub begun : BeginsAfter n plan (before (begins_at spans k) (moves_of spans)) s
  pub made : All IsMade s.moves
  pub those : AreThose (kept_of_spans spans) (begins_at spans k) s.to s.moves
  pub own : All (IsOwn plan) s.moves

-- of a list that is cut in three by times, what is in the middle
contains_middle : (x y z : List KeptData) (from to : ℕ) → All (λ m. m.due.time < from) (map move_of x)
    → All (λ m. to ≤ m.due.time) (map move_of z) → AreThose ((x ++ y) ++ z) from to y
contains_middle x y z from to early late = λ k ge lt. (
  λ h. ⊎_elim
      (λ (front : Contains (x ++ y) k).
      ⊎_elim
      (λ (first : Contains x k). absurd (let e : k.due.time < from = in_map x k (λ m. m.due.time < from) first early in omega arith))
      (λ (mid : Contains y k). mid)
      (Contains-append_cases x y k front))
      (λ (last : Contains z k). absurd (let e : to ≤ k.due.time = in_map z k (λ m. to ≤ m.due.time) last late in omega arith))
      (Contains-append_cases (x ++ y) z k h),
  λ h. Contains-append_left (x ++ y) z k (Contains-append_right x y k h),
) where
  in_map : (l : List KeptData) (k : KeptData) (P : Move → Type 0) → Contains l k → All P (map move_of l) → P (move_of k)
  in_map l k P h all =
      let i = h.0 in
      subst P (list_map.get_or-map move_of l i k ∙ ap move_of h.2) (all i (move_of k) (omega (arith, length-map l move_of, h.1)))

pub in_span : (n : ℕ) (plan : Plan) (spans : List RunData) (k : ℕ) (s : RunData) → IsKept n plan spans → slice_get spans k ≡ Some s
    → InSpan n plan spans k s
in_span n plan spans k s kept e =
    let within = slice_get_within spans k s e in
    let at = begins_at spans k in
    let to = s.to in
    let moves : List Move = moves_of spans in
    let x : List KeptData = kept_of_spans (take k spans) in
    let z : List KeptData = kept_of_spans (drop (suc k) spans) in
    let split : kept_of_spans spans ≡ (x ++ s.moves) ++ z = kept_split spans k s e in
    let first : before at moves ≡ moves_of (take k spans) = kept.spanned.parted k (omega arith) in
    let next : before to moves ≡ moves_of (take (suc k) spans) =
    ap (λ t. before t moves) (sym (end_next 0 spans k s e)) ∙ kept.spanned.parted (suc k) (omega arith) in
    let both : before to moves ≡ map move_of (x ++ s.moves) = next ∙ ap (map move_of) (kept_next spans k s e) in
    let cut_at = cut_from at [] moves kept.safe.run.ordered in
    let cut_to = cut_from to [] moves kept.safe.run.ordered in
    let early : All (λ m. m.due.time < at) (map move_of x) =
    subst (λ (l : List Move). All (λ m. m.due.time < at) l) first cut_at.earlier in
    let whole : moves ≡ map move_of (x ++ s.moves) ++ map move_of z =
    ap (map move_of) split ∙ map-append move_of (x ++ s.moves) z in
    let rest : cut_to.rest ≡ map move_of z =
    append_cancel_left (map move_of (x ++ s.moves)) cut_to.rest (map move_of z)
    (ap (λ (l : List Move). l ++ cut_to.rest) (sym both) ∙ sym cut_to.whole ∙ whole) in
    let late : All (λ m. to ≤ m.due.time) (map move_of z) = subst (λ (l : List Move). All (λ m. to ≤ m.due.time) l) rest cut_to.later in
    let own : All (IsOwn plan) s.moves =
    All-back (IsOwn plan) x s.moves
    (All-front (IsOwn plan) (x ++ s.moves) z (subst (λ (l : List KeptData). All (IsOwn plan) l) split kept.own)) in
    let ordered : EachAfter IsInOrder (map move_of x) (map move_of s.moves) =
    EachAfter-back IsInOrder [] (map move_of x) (map move_of s.moves)
    (subst (λ (l : List Move). EachAfter IsInOrder [] l) (map-append move_of x s.moves)
    (EachAfter-front IsInOrder [] (map move_of (x ++ s.moves)) (map move_of z)
    (subst (λ (l : List Move). EachAfter IsInOrder [] l) whole kept.safe.run.ordered))) in
    record {
      is_before = first;
      is_next = next ∙ moves_next spans k s e ∙ ap (λ (l : List Move). l ++ map move_of s.moves) (sym first);
      rising = kept.spanned.rising k s e;
      begun = subst (λ (l : List Move). BeginsAfter n plan l s) (sym first) (kept.spanned.begun k s e);
      made = λ i d lt. (own i d lt).made;
      those = subst (λ (l : List KeptData). AreThose l at to s.moves) (sym split) (contains_middle x s.moves z at to early late);
      own = own;
    }
