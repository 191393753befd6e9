-- Looking for an entry that passes a test.
use Rattle.std.proofs.Common.{◌≡◌, ℕ, List, [], ◌∷◌, take, drop, Option, Some, None, Bool, true, false, refl, sym, ap, ◌∙◌}
use Rattle.std.specs.Prelude.{◌||◌, MatchOption, fold, slice_get}
use Rattle.std.specs.List.{list_any}
use Rattle.std.proofs.lemmas.List.{take-append-drop}
use Rattle.std.proofs.lemmas.List.Folds.{list_any-append}
use Rattle.pd_port.specs.declared.entry.Entry.{Entry}

module _ (test : ℕ × Entry → Bool) where
  -- whether one passed so far, or passes
  abbrev pub or_passes : Bool → ℕ × Entry → Bool
  or_passes found m = found || test m

  any_from : (b : Bool) (moves : List (ℕ × Entry)) → fold or_passes b moves ≡ (b || list_any test moves)
  any_from true [] = refl
  any_from false [] = refl
  any_from true (m ∷ moves) = any_from true moves
  any_from false (m ∷ moves) = any_from (test m) moves

  pub any_is : (moves : List (ℕ × Entry)) → fold or_passes false moves ≡ list_any test moves
  any_is moves = any_from false moves

  -- once one passes, one does
  pub found_stays : (moves : List (ℕ × Entry)) (i : ℕ) → fold or_passes false (take i moves) ≡ true → list_any test moves ≡ true
  found_stays moves i h =
      ap (list_any test) (sym (take-append-drop i moves)) ∙ list_any-append test (take i moves) (drop i moves)
      ∙ ap (λ b. b || list_any test (drop i moves)) (sym (any_is (take i moves)) ∙ h)

  or_false : (b : Bool) → (b || false) ≡ b
  or_false true = refl
  or_false false = refl

  pub quiet : (found : Bool) (m : ℕ × Entry) → test m ≡ false → or_passes found m ≡ found
  quiet found m h = ap (λ b. found || b) h ∙ or_false found

  -- an entry that is looked at, where none passed before
  pub looked : (moves : List (ℕ × Entry)) (i : ℕ) (before found : Bool) → before ≡ false →
      MatchOption (slice_get moves i) ⊥ (λ move. found ≡ test move) → MatchOption (slice_get moves i) ⊥
      (λ move. found ≡ or_passes before move)
  looked moves i before found none h = by_case (slice_get moves i) h
    where
      by_case : (o : Option (ℕ × Entry)) → MatchOption o ⊥ (λ move. found ≡ test move) →
          MatchOption o ⊥ (λ move. found ≡ or_passes before move)
      by_case None k = k
      by_case (Some m) k = k ∙ sym (ap (λ b. b || test m) none)
