-- Spans, each with the number of moves before it.
use Rattle.std.specs.Prelude.{◌≡◌, ℕ, ◌≤◌, ◌<◌, ◌+◌, ◌*◌, ◌⊎◌, List, map, take, length, slice_get, Some}
use Rattle.pd_keep.specs.declared.spans.Span.{Span}
use Rattle.pd_keep.specs.Kept.{RunData}
use Rattle.pd_keep.specs.Spans.{kept_of_spans}

-- what is kept of a span
abbrev pub span_of : Span → RunData
span_of s = s.kept.value

-- each has the number of moves in the spans before it
abbrev pub AreCounted : List Span → Type 0
AreCounted spans = (k : ℕ) (s : Span) → slice_get spans k ≡ Some s → s.first ≡ length (kept_of_spans (map span_of (take k spans)))

-- the place of the span that has the move at i: those before it have at most i moves, and with it they have more, if any have
pub record IsPlaceOf (spans : List RunData) (i place : ℕ) : Type 0 where
  pub from : length (kept_of_spans (take place spans)) ≤ i
  pub to : (i < length (kept_of_spans (take (place + 1) spans))) ⊎ (length spans ≤ place + 1)

-- for each move whose number is a multiple of 64, as far as the list goes, it has the place of a span that doesn't begin after that move
abbrev pub AreStarts : List ℕ → List RunData → Type 0
AreStarts starts spans = (b p : ℕ) → slice_get starts b ≡ Some p → (p < length spans) × (length (kept_of_spans (take p spans)) ≤ b * 64)
