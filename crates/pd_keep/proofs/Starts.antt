-- The places of the spans of some moves.
use Rattle.std.proofs.Common.{◌≡◌, ◌≢◌, ⊎_elim, ℕ, ◌*◌, ◌<◌, ◌≤◌, List, [], ◌∷◌, ◌++◌, length, take}
use Rattle.std.proofs.Common.{◌+◌, ◌/◌, ap, sym, ◌∙◌, subst, arith, replicate, slice_index_or}
use Rattle.std.proofs.lemmas.List.{append_assoc, get_or_past, length_push, replicate_more, take-append-le}
use Rattle.std.proofs.lemmas.Bool.{cases_eq, cases_lt}
use Rattle.std.proofs.lemmas.Option.{slice_get-get_or, slice_get_within}
use Rattle.pd_keep.specs.Firsts.{AreStarts}
use Rattle.pd_keep.specs.Kept.{RunData}
use Rattle.pd_keep.specs.Spans.{kept_of_spans}
use Rattle.pd_keep.proofs.Parted.{get_push_last, get_push_other}

-- one more place is one of a span that begins early enough
pub starts_push : (starts : List ℕ) (place first : ℕ) (spans : List RunData) → place < length spans
    → length (kept_of_spans (take place spans)) ≤ first → first ≤ length starts * 64 → AreStarts starts spans
    → AreStarts (starts ++ place ∷ []) spans
starts_push starts place first spans lt from early old b p e =
    let within = slice_get_within (starts ++ place ∷ []) b p e in
    let count = length_push starts place in
    ⊎_elim
    (λ (last : b ≡ length starts).
    let is : place ≡ p = get_push_last starts place p b last e in
    subst (λ q. (q < length spans) × (length (kept_of_spans (take q spans)) ≤ b * 64)) is (lt, omega (arith, from, early, last)))
    (λ (other : b ≢ length starts).
    let inside : b < length starts = omega (arith, within, count, other) in
    old b p (sym (get_push_other starts place b inside) ∙ e))
    (cases_eq b (length starts))

-- with one more span they are places of the same spans
pub starts_span : (starts : List ℕ) (spans : List RunData) (x : RunData) → AreStarts starts spans → AreStarts starts (spans ++ x ∷ [])
starts_span starts spans x old b p e =
    let there = old b p e in
    let inside = there.0 in
    let count = length_push spans x in
    let same = take-append-le p spans (x ∷ []) (omega (arith, inside)) in (
      omega (arith, inside, count),
      subst (λ (l : List RunData). length (kept_of_spans l) ≤ b * 64) (sym same) there.1,
    )

-- the span where the search for a move begins doesn't begin after the move
pub start_early : (starts : List ℕ) (spans : List RunData) (i : ℕ) → AreStarts starts spans
    → (slice_index_or starts (i / 64) 0 ≤ length spans) × (length (kept_of_spans (take (slice_index_or starts (i / 64) 0) spans)) ≤ i)
start_early starts spans i known =
    ⊎_elim
    (λ (inside : i / 64 < length starts).
    let there = known (i / 64) (slice_index_or starts (i / 64) 0) (slice_get-get_or starts (i / 64) 0 inside) in
    let place = there.0 in
    let early = there.1 in (omega (arith, place), omega (arith, early)))
    (λ (past : length starts ≤ i / 64).
    subst (λ p. (p ≤ length spans) × (length (kept_of_spans (take p spans)) ≤ i)) (sym (get_or_past starts (i / 64) 0 past))
    (omega arith, omega arith))
    (cases_lt (i / 64) (length starts))

-- one more of the same place
pub place_more : (old now : List ℕ) (place k : ℕ) → now ≡ old ++ replicate k place → now ++ place ∷ [] ≡ old ++ replicate (k + 1) place
place_more old now place k is =
    ap (λ l. l ++ place ∷ []) is ∙ append_assoc old (replicate k place) (place ∷ []) ∙ ap (λ l. old ++ l) (replicate_more k place)
