-- The next move that leaves a note.
use Rattle.std.proofs.Common.{◌≡◌, ⊎_elim, ◌⊎◌, ◌↔◌, inl, inr, ℕ, ◌+◌, ◌-◌, ◌<◌, ◌≤◌, List, [], ◌∷◌, ◌++◌}
use Rattle.std.proofs.Common.{length, map, All, take, drop, Option, None, Some, IfSome, slice_get, option_map}
use Rattle.std.proofs.Common.{refl, ap, sym, ◌∙◌, subst, arith, suc, slice_index_or}
use Rattle.std.specs.Prelude.{min}
use Rattle.std.proofs.Math.Nat.{min-le_left, min-le_right, min-eq_left, min-eq_right}
use Rattle.std.proofs.lemmas.Bool.{cases_lt, lt-ltb, ltb-true}
use Rattle.std.proofs.lemmas.List.{length-append, length-map}
use Rattle.std.proofs.lemmas.List.Elements.{All-append}
use Rattle.std.proofs.lemmas.Option.{slice_get-map, slice_get_past, slice_get_within, get_or_from_slice_get}
use Rattle.pd_port.specs.declared.entry.Entry.{Entry}
use Rattle.pd_scenario.specs.Plan.{Plan}
use Rattle.pd_run.specs.Notes.{Leaves, NoneLeaves, IsNextWith, Have, IsNextMarked, marks_of}
use Rattle.pd_run.specs.Run.{shown}
use Rattle.pd_run.specs.declared.note.Marks.{Marks}
use Rattle.pd_run.specs.declared.note.Note.{Note}
use Rattle.pd_run.specs.declared.note.Note.TheVariants.{Contract, Fault, Packet}
use Rattle.pd_keep.specs.Kept.{KeptData, move_of, IsOwn}
use Rattle.pd_keep.specs.Presence.{MayHave, AreNoted}
use Rattle.pd_keep.specs.declared.presence.Presence.{Presence}
use Rattle.pd_keep.specs.Kept.{RunData, shown_of, marks_kept}
use Rattle.pd_keep.specs.Spans.{kept_of_spans}
use Rattle.pd_keep.proofs.Entries.{get_right, get_left}
use Rattle.pd_keep.proofs.Parted.{kept_split, kept_next}

-- what is kept of moves shows what the moves do
pub shown_all : (plan : Plan) (kept : List KeptData) → All (IsOwn plan) kept → map shown_of kept ≡ map shown (map move_of kept)
shown_all plan [] own = refl
shown_all plan (k ∷ ks) own =
    let first : IsOwn plan k = own 0 k (omega arith) in
    let one = first.from_one in
    let port : k.port ≡ k.port - 1 + 1 = omega (arith, one) in
    ap (λ (p : ℕ). (p, k.entry) ∷ map shown_of ks) port
    ∙ ap (λ (l : List (ℕ × Entry)). shown (move_of k) ∷ l) (shown_all plan ks (λ i d lt. own (suc i) d (omega arith)))

-- a move of a span shows in the run what it shows in the span
pub shown_in_span : (spans : List RunData) (place first i : ℕ) (s : RunData) → slice_get spans place ≡ Some s
    → first ≡ length (kept_of_spans (take place spans)) → i < length s.moves
    → slice_get (map shown_of (kept_of_spans spans)) (first + i) ≡ slice_get (map shown_of s.moves) i
shown_in_span spans place first i s e is lt =
    let x : List KeptData = kept_of_spans (take place spans) in
    let z : List KeptData = kept_of_spans (drop (suc place) spans) in
    let count = length-append x s.moves in
    slice_get-map shown_of (kept_of_spans spans) (first + i)
    ∙ ap (option_map shown_of)
    (ap (λ (l : List KeptData). slice_get l (first + i)) (kept_split spans place s e)
    ∙ get_left (x ++ s.moves) z (first + i) (omega (arith, count, is, lt)) ∙ get_right x s.moves (first + i) i (omega (arith, is)))
    ∙ sym (slice_get-map shown_of s.moves i)

-- the spans up to one have so many moves, and with it more by its own
pub counted_next : (spans : List RunData) (place : ℕ) (s : RunData) → slice_get spans place ≡ Some s
    → length (kept_of_spans (take (suc place) spans)) ≡ length (kept_of_spans (take place spans)) + length s.moves
counted_next spans place s e = ap length (kept_next spans place s e) ∙ length-append (kept_of_spans (take place spans)) s.moves

-- none of the moves up to a place in a span leaves the note
pub none_on : (note : Note) (spans : List RunData) (place first from next : ℕ) (s : RunData) → slice_get spans place ≡ Some s
    → first ≡ length (kept_of_spans (take place spans)) → IsNextWith note (map shown_of s.moves) (from - first) next
    → NoneLeaves note (map shown_of (kept_of_spans spans)) from first
    → NoneLeaves note (map shown_of (kept_of_spans spans)) from (first + next)
none_on note spans place first from next s e is local none i ge lt =
    let all : List (ℕ × Entry) = map shown_of (kept_of_spans spans) in
    ⊎_elim (λ (early : i < first). none i ge early)
    (λ (late : first ≤ i).
    let count = length-map s.moves shown_of in
    let within = local.within in
    let back : first + (i - first) ≡ i = omega arith in
    let inside : i - first < length s.moves = omega (arith, count, within) in
    let same = shown_in_span spans place first (i - first) s e is inside in
    subst (λ k. IfSome (slice_get all k) (λ (move : ℕ × Entry). ¬ Leaves note move)) back
    (subst (λ (o : Option (ℕ × Entry)). IfSome o (λ (move : ℕ × Entry). ¬ Leaves note move)) (sym same)
    (local.none_between (i - first) (omega arith) (omega arith))))
    (cases_lt i first)

-- the next move with the note is in this span
pub found_in : (note : Note) (spans : List RunData) (place first from next : ℕ) (s : RunData) → slice_get spans place ≡ Some s
    → first ≡ length (kept_of_spans (take place spans)) → IsNextWith note (map shown_of s.moves) (from - first) next
    → NoneLeaves note (map shown_of (kept_of_spans spans)) from first → next < length s.moves
    → IsNextWith note (map shown_of (kept_of_spans spans)) from (first + next)
found_in note spans place first from next s e is local none lt =
    let x : List KeptData = kept_of_spans (take place spans) in
    let z : List KeptData = kept_of_spans (drop (suc place) spans) in
    let split = ap length (kept_split spans place s e) in
    let both = length-append (x ++ s.moves) z in
    let own = length-append x s.moves in
    let count = length-map s.moves shown_of in
    let all = length-map (kept_of_spans spans) shown_of in
    let least : min (from - first) (length (map shown_of s.moves)) ≤ next = local.not_before in
    let not_before : from ≤ first + next =
    ⊎_elim
    (λ (less : from - first < length (map shown_of s.moves)).
    let eq = min-eq_left {n = from - first} {m = length (map shown_of s.moves)} (omega arith) in
    omega (arith, eq, least))
    (λ (more : length (map shown_of s.moves) ≤ from - first).
    let eq = min-eq_right {n = length (map shown_of s.moves)} {m = from - first} more in
    absurd (omega (arith, eq, least, count, lt)))
    (cases_lt (from - first) (length (map shown_of s.moves))) in
    let below = min-le_left from (length (map shown_of (kept_of_spans spans))) in
    record {
      within = omega (arith, split, both, own, all, is, lt);
      not_before = omega (arith, below, not_before);
      none_between = none_on note spans place first from next s e is local none;
      leaves = subst (λ (o : Option (ℕ × Entry)). IfSome o (Leaves note)) (sym (shown_in_span spans place first next s e is lt))
          local.leaves;
    }

-- none up to the end of a span, and so up to the next one
pub none_in : (note : Note) (spans : List RunData) (place first from next : ℕ) (s : RunData) → slice_get spans place ≡ Some s
    → first ≡ length (kept_of_spans (take place spans)) → IsNextWith note (map shown_of s.moves) (from - first) next
    → NoneLeaves note (map shown_of (kept_of_spans spans)) from first → length s.moves ≤ next
    → NoneLeaves note (map shown_of (kept_of_spans spans)) from (length (kept_of_spans (take (suc place) spans)))
none_in note spans place first from next s e is local none le =
    let count = length-map s.moves shown_of in
    let within = local.within in
    let more = counted_next spans place s e in
    let same : first + next ≡ length (kept_of_spans (take (suc place) spans)) = omega (arith, count, within, more, is) in
    subst (λ k. NoneLeaves note (map shown_of (kept_of_spans spans)) from k) same
    (none_on note spans place first from next s e is local none)

-- there is none at all
pub none_left : (note : Note) (moves : List (ℕ × Entry)) (from : ℕ) → NoneLeaves note moves from (length moves)
    → IsNextWith note moves from (length moves)
none_left note moves from none = record {
  within = omega arith;
  not_before = min-le_right from (length moves);
  none_between = none;
  leaves = subst (λ (o : Option (ℕ × Entry)). IfSome o (Leaves note)) (sym (slice_get_past moves (length moves) (omega arith))) tt;
}

-- What marks tell.
have_leaves : (note : Note) (move : ℕ × Entry) → Have (marks_of move) note → Leaves note move
have_leaves Contract move h = h
have_leaves Fault move h = ltb-true 0 (length move.1.faults.items) h
have_leaves (Packet port) move h = (h.1, h.0)

leaves_have : (note : Note) (move : ℕ × Entry) → Leaves note move → Have (marks_of move) note
leaves_have Contract move h = h
leaves_have Fault move h = lt-ltb 0 (length move.1.faults.items) h
leaves_have (Packet port) move h = (h.1, h.0)

-- where the marks at a place have the note, the move there leaves it
marked : (note : Note) (moves : List KeptData) (at : ℕ) → IfSome (slice_get (map marks_kept moves) at) (λ m. Have m note)
    → IfSome (slice_get (map shown_of moves) at) (Leaves note)
marked note moves at h = go (slice_get moves at) refl where
  go : (o : Option KeptData) → slice_get moves at ≡ o → IfSome (slice_get (map shown_of moves) at) (Leaves note)
  go None e =
      subst (λ (o : Option (ℕ × Entry)). IfSome o (Leaves note)) (sym (slice_get-map shown_of moves at ∙ ap (option_map shown_of) e)) tt
  go (Some k) e =
      subst (λ (o : Option (ℕ × Entry)). IfSome o (Leaves note)) (sym (slice_get-map shown_of moves at ∙ ap (option_map shown_of) e))
      (have_leaves note (shown_of k)
      (subst (λ (o : Option Marks). IfSome o (λ m. Have m note)) (slice_get-map marks_kept moves at ∙ ap (option_map marks_kept) e) h))

-- where they don't have it, the move there doesn't leave it
unmarked : (note : Note) (moves : List KeptData) (at : ℕ) → IfSome (slice_get (map marks_kept moves) at) (λ m. ¬ Have m note)
    → IfSome (slice_get (map shown_of moves) at) (λ move. ¬ Leaves note move)
unmarked note moves at h = go (slice_get moves at) refl where
  go : (o : Option KeptData) → slice_get moves at ≡ o → IfSome (slice_get (map shown_of moves) at) (λ move. ¬ Leaves note move)
  go None e =
      subst (λ (o : Option (ℕ × Entry)). IfSome o (λ move. ¬ Leaves note move))
      (sym (slice_get-map shown_of moves at ∙ ap (option_map shown_of) e)) tt
  go (Some k) e =
      subst (λ (o : Option (ℕ × Entry)). IfSome o (λ move. ¬ Leaves note move))
      (sym (slice_get-map shown_of moves at ∙ ap (option_map shown_of) e))
      (λ leaves.
      subst (λ (o : Option Marks). IfSome o (λ m. ¬ Have m note)) (slice_get-map marks_kept moves at ∙ ap (option_map marks_kept) e) h
      (leaves_have note (shown_of k) leaves))

-- the first move whose marks have the note is the first that leaves it
pub marked_next : (note : Note) (moves : List KeptData) (from next : ℕ) → IsNextMarked note (map marks_kept moves) from next
    → IsNextWith note (map shown_of moves) from next
marked_next note moves from next told =
    let marks = length-map moves marks_kept in
    let shows = length-map moves shown_of in
    let within = told.within in
    record {
      within = omega (arith, marks, shows, within);
      not_before = subst (λ n. min from n ≤ next) (marks ∙ sym shows) told.not_before;
      none_between = λ i ge lt. unmarked note moves i (told.none_between i ge lt);
      leaves = marked note moves next told.has;
    }

-- What is noted of a span.

-- one mark more is noted
pub noted_more : (presence next : Presence) (marks : List Marks) (m : Marks) → AreNoted presence marks
    → (MayHave next Contract ↔ (MayHave presence Contract ⊎ Have m Contract))
    → (MayHave next Fault ↔ (MayHave presence Fault ⊎ Have m Fault))
    → AreNoted next (marks ++ m ∷ [])
noted_more presence next marks m h contract fault note =
    All-append (λ k. Have k note → MayHave next note) marks (m ∷ [])
    (λ i d lt has. kept note (h note i d lt has)) (λ i d lt. one i d lt) where
      kept : (note : Note) → MayHave presence note → MayHave next note
      kept Contract may = contract.1 (inl may)
      kept Fault may = fault.1 (inl may)
      kept (Packet port) may = tt

      own : (note : Note) → Have m note → MayHave next note
      own Contract has = contract.1 (inr has)
      own Fault has = fault.1 (inr has)
      own (Packet port) has = tt

      one : (i : ℕ) (d : Marks) → i < 1 → Have (slice_index_or (m ∷ []) i d) note → MayHave next note
      one i d lt =
          let first : 0 ≡ i = omega (arith, lt) in
          subst (λ n. Have (slice_index_or (m ∷ []) n d) note → MayHave next note) first (own note)

-- a note that isn't noted is left by none of the moves
pub none_noted : (presence : Presence) (note : Note) (moves : List KeptData) → AreNoted presence (map marks_kept moves)
    → (MayHave presence note → ⊥) → (from : ℕ) → NoneLeaves note (map shown_of moves) from (length (map shown_of moves))
none_noted presence note moves h none from i ge lt = unmarked note moves i (go (slice_get (map marks_kept moves) i) refl) where
  go : (o : Option Marks) → slice_get (map marks_kept moves) i ≡ o → IfSome o (λ m. ¬ Have m note)
  go None e = tt
  go (Some m) e = λ has.
      none
      (subst (λ (k : Marks). Have k note → MayHave presence note) (get_or_from_slice_get (map marks_kept moves) i m m e)
      (h note i m (slice_get_within (map marks_kept moves) i m e)) has)
