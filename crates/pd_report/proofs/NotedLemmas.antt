-- Going from one entry that leaves a note to the next.
use Rattle.std.proofs.Common.{◌≡◌, ℕ, zero, suc, ◌+◌, ◌-◌, ◌<◌, ◌≤◌, List, [], ◌++◌, length, take, Option, Some, inl, inr, ap, ◌∙◌}
use Rattle.std.proofs.Common.{subst, refl, arith}
use Rattle.std.specs.Prelude.{IfSome, slice_get}
use Rattle.std.specs.List.{flat_map}
use Rattle.std.proofs.lemmas.List.{append-nil}
use Rattle.std.proofs.lemmas.Option.{slice_get_cases}
use Rattle.pd_port.specs.declared.entry.Entry.{Entry}
use Rattle.pd_run.specs.declared.note.Note.{Note}
use Rattle.pd_run.specs.Notes.{Leaves, NoneLeaves}
use Rattle.pd_report.proofs.ShownLemmas.{text_more}

-- what holds at a number and goes on from each to the next holds at a later one
more : (P : ℕ → Type 0) (from k : ℕ) → P from → ((i : ℕ) → from ≤ i → i < from + k → P i → P (i + 1)) → P (from + k)
more P from zero h step = let e : from ≡ from + 0 = omega arith in subst P e h
more P from (suc k) h step =
    let e : (from + k) + 1 ≡ from + suc k = omega arith in
    subst P e (step (from + k) (omega arith) (omega arith) (more P from k h (λ i low high. step i low (omega arith))))

pub along : (P : ℕ → Type 0) (from to : ℕ) → from ≤ to → P from → ((i : ℕ) → from ≤ i → i < to → P i → P (i + 1)) → P to
along P from to up h step =
    let e : from + (to - from) ≡ to = omega arith in
    subst P e (more P from (to - from) h (λ i low high. step i low (omega arith)))

-- the element at an index
pub at_index : {X : Type 0} (xs : List X) (i : ℕ) → i < length xs → (x : X) × (slice_get xs i ≡ Some x)
at_index {X} xs i within =
    elim (slice_get_cases xs i).1 as (λ _. (x : X) × (slice_get xs i ≡ Some x)) [
      | inl h ↦ (h.0, h.2)
      | inr h ↦ absurd (let past = h.0 in omega arith)
    ]

module _ (note : Note) (moves : List (ℕ × Entry)) where
  pub not_left : (from to i : ℕ) (m : ℕ × Entry) → NoneLeaves note moves from to → from ≤ i → i < to → slice_get moves i ≡ Some m →
      ¬ Leaves note m
  not_left from to i m none low high here =
      subst (λ (o : Option (ℕ × Entry)). IfSome o (λ x. ¬ Leaves note x)) here (none i low high)

  -- a show gets nothing from entries without its note
  pub text_passed : (f : ℕ × Entry → List ℕ) (from to : ℕ) → ((m : ℕ × Entry) → ¬ Leaves note m → f m ≡ []) → from ≤ to →
      to ≤ length moves → NoneLeaves note moves from to →
      flat_map f (take to moves) ≡ flat_map f (take from moves)
  text_passed f from to silent up within none = along (λ k. flat_map f (take k moves) ≡ flat_map f (take from moves)) from to up refl step
    where
      step : (i : ℕ) → from ≤ i → i < to → flat_map f (take i moves) ≡ flat_map f (take from moves) →
          flat_map f (take (i + 1) moves) ≡ flat_map f (take from moves)
      step i low high so =
          let m = at_index moves i (omega arith) in
          text_more f [] moves i m.0 m.1
          ∙ ap (λ t. flat_map f (take i moves) ++ t) (silent m.0 (not_left from to i m.0 none low high m.1))
          ∙ append-nil (flat_map f (take i moves)) ∙ so
