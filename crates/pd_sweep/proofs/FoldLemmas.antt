-- Going along a run by the entries that leave a note.
use Rattle.std.proofs.Common.{◌≡◌, ℕ, ◌+◌, ◌<◌, ◌≤◌, List, [], ◌∷◌, ◌++◌, length, take, Option, Some, None, ap, sym, ◌∙◌, refl, arith}
use Rattle.std.specs.Prelude.{MatchOption, fold, slice_get}
use Rattle.std.specs.List.{flat_map}
use Rattle.std.proofs.lemmas.List.{append-nil, take_more, take_all}
use Rattle.std.proofs.lemmas.List.Concat.{flat_map-append}
use Rattle.std.proofs.lemmas.List.Sums.{fold-append}
use Rattle.std.proofs.lemmas.Option.{get_or_from_slice_get, slice_get_within}
use Rattle.pd_port.specs.declared.entry.Entry.{Entry}
use Rattle.pd_run.specs.declared.note.Note.{Note}
use Rattle.pd_run.specs.Notes.{IsNextWith, Leaves, NoneLeaves}
use Rattle.pd_report.proofs.NotedLemmas.{along, at_index, not_left}

take_one : (moves : List (ℕ × Entry)) (i : ℕ) (m : ℕ × Entry) → slice_get moves i ≡ Some m → take (i + 1) moves ≡ take i moves ++ m ∷ []
take_one moves i m e =
    take_more moves i m (slice_get_within moves i m e) ∙ ap (λ y. take i moves ++ y ∷ []) (get_or_from_slice_get moves i m m e)

-- one more entry adds to a list
pub flat_more : {X : Type 0} (f : ℕ × Entry → List X) (moves : List (ℕ × Entry)) (i : ℕ) (old new : List X) →
    old ≡ flat_map f (take i moves) → MatchOption (slice_get moves i) ⊥ (λ m. new ≡ old ++ f m) → new ≡ flat_map f (take (i + 1) moves)
flat_more {X} f moves i old new so h = by_case (slice_get moves i) refl h
  where
    by_case : (o : Option (ℕ × Entry)) → slice_get moves i ≡ o → MatchOption o ⊥ (λ m. new ≡ old ++ f m) →
        new ≡ flat_map f (take (i + 1) moves)
    by_case None e k = absurd k
    by_case (Some m) e k =
        k ∙ ap (λ v. v ++ f m) so
        ∙ sym (ap (flat_map f) (take_one moves i m e) ∙ flat_map-append f (take i moves) (m ∷ [])
        ∙ ap (λ v. flat_map f (take i moves) ++ v) (append-nil (f m)))

module _ {S : Type 0} (f : S → ℕ × Entry → S) (s : S) (moves : List (ℕ × Entry)) where
  -- what the first entries come to
  abbrev after : ℕ → S
  after i = fold f s (take i moves)

  fold_more : (i : ℕ) (m : ℕ × Entry) → slice_get moves i ≡ Some m → after (i + 1) ≡ f (after i) m
  fold_more i m e = ap (fold f s) (take_one moves i m e) ∙ fold-append f s (take i moves) (m ∷ [])

  pub fold_seen : (i : ℕ) (old new : S) → old ≡ fold f s (take i moves) →
      MatchOption (slice_get moves i) ⊥ (λ m. new ≡ f old m) → new ≡ fold f s (take (i + 1) moves)
  fold_seen i old new so h = by_case (slice_get moves i) refl h
    where
      by_case : (o : Option (ℕ × Entry)) → slice_get moves i ≡ o → MatchOption o ⊥ (λ m. new ≡ f old m) → new ≡ after (i + 1)
      by_case None e k = absurd k
      by_case (Some m) e k = k ∙ ap (λ v. f v m) so ∙ sym (fold_more i m e)

  module _ (note : Note) (quiet : (t : S) (m : ℕ × Entry) → ¬ Leaves note m → f t m ≡ t) where
    -- entries without the note change nothing
    fold_passed : (from to : ℕ) → from ≤ to → to ≤ length moves → NoneLeaves note moves from to → after to ≡ after from
    fold_passed from to up within none = along (λ k. after k ≡ after from) from to up refl step
      where
        step : (i : ℕ) → from ≤ i → i < to → after i ≡ after from → after (i + 1) ≡ after from
        step i low high so =
            let m = at_index moves i (omega arith) in
            fold_more i m.0 m.1 ∙ quiet (after i) m.0 (not_left note moves from to i m.0 none low high m.1) ∙ so

    -- from the first on
    pub fold_start : (next : ℕ) → IsNextWith note moves 0 next → s ≡ fold f s (take next moves)
    fold_start next n = let up : 0 ≤ next = omega arith in sym (fold_passed 0 next up n.within n.none_between)

    -- from a later one on
    pub fold_from : (from next : ℕ) (old : S) → from ≤ length moves → old ≡ fold f s (take from moves) →
        IsNextWith note moves from next → old ≡ fold f s (take next moves)
    fold_from from next old within so n =
        let up : from ≤ next = let b = n.not_before in omega (arith, within, b) in
        so ∙ sym (fold_passed from next up n.within n.none_between)

    -- after one more
    pub fold_step : (i next : ℕ) (old new : S) → i < length moves → old ≡ fold f s (take i moves) →
        MatchOption (slice_get moves i) ⊥ (λ m. new ≡ f old m) → IsNextWith note moves (i + 1) next → new ≡ fold f s (take next moves)
    fold_step i next old new here so h n =
        let up : i + 1 ≤ next = let b = n.not_before in omega (arith, here, b) in
        fold_seen i old new so h ∙ sym (fold_passed (i + 1) next up n.within n.none_between)

  -- after the last
  pub fold_end : (i : ℕ) → length moves ≤ i → fold f s (take i moves) ≡ fold f s moves
  fold_end i past = ap (fold f s) (take_all i moves past)
