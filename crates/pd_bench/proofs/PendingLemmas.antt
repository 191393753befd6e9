-- The kept bytes say what the line says, and how lines are cut off the front of a text.
use Rattle.std.proofs.Common.{rules, ◌≡◌, ℕ, ◌+◌, ◌-◌, ◌<◌, Bool, true, false, cond, eqb, ltb, List, [], ◌∷◌, ◌++◌, length, take, get_or}
use Rattle.std.proofs.Common.{Result, Ok, Err, inl, inr, refl, sym, ap, ◌∙◌, append_assoc, arith, All}
use Rattle.std.specs.Prelude.{◌&&◌, ◌||◌}
use Rattle.std.proofs.Math.Bool.{and-true}
use Rattle.std.proofs.lemmas.Bool.{lt-ltb, cases_lt, ne_eqb}
use Rattle.std.proofs.lemmas.List.{length-append, take_at, get_or_at, length_push}
use Rattle.std.proofs.lemmas.List.Folds.{list_all-append}
use Rattle.std.proofs.lemmas.List.Elements.{All-push}
use Rattle.std.proofs.lemmas.List.Splits.{slice_split_at, slice_split_none, length-slice_split}
use Rattle.std.proofs.lemmas.Grind.{common_steps}
use Rattle.std.specs.List.{slice_split}
use Rattle.std.specs.Str.Lines.{lines, lines_of_parts, strip_carriage_return}
use Rattle.pd_edit_lines.specs.Grammar.{is_comment, are_spaces, line_of}
use Rattle.pd_bench.specs.Pending.{merged, kept_after, StandsForEnd, StandsFor, IsPending}
use Rattle.pd_edit_lines.specs.declared.line.Line.{Line}
use Rattle.pd_edit_lines.specs.declared.line.Line.TheVariants.{Skip}
use Rattle.pd_edit_lines.specs.declared.fault.EditFault.{EditFault}
use Rattle.pd_edit_lines.specs.declared.fault.EditFault.TheVariants.{Syntax}

-- 1. The carriage return at the end

pub strip-push : (xs : List ℕ) (b : ℕ) → strip_carriage_return (xs ++ b ∷ []) ≡ cond (eqb b 13) xs (xs ++ b ∷ [])
strip-push xs b =
    let at : get_or (xs ++ b ∷ []) (length (xs ++ b ∷ []) - 1) 0 ≡ b = grind (arith, common_steps) in
    let front : take (length (xs ++ b ∷ []) - 1) (xs ++ b ∷ []) ≡ xs = grind (arith, common_steps) in
    rw (at, front) refl

-- 2. One more byte

kept_after-short : (kept : List ℕ) (b : ℕ) → length kept < 258 → kept_after kept b ≡ kept ++ b ∷ []
kept_after-short kept b h = rw (lt-ltb (length kept) 258 h) refl

kept_after-long : (front : List ℕ) (byte b : ℕ) → length front ≡ 257 → kept_after (front ++ byte ∷ []) b ≡ front ++ merged byte b ∷ []
kept_after-long front byte b full =
    let n : length (front ++ byte ∷ []) ≡ 258 = length_push front byte ∙ ap (λ k. k + 1) full in
    rw (n, take_at front (byte ∷ []) 257 full, get_or_at front byte [] 0 257 full) refl

blank-push : (more : List ℕ) (last : ℕ) → are_spaces (more ++ last ∷ []) ≡ (are_spaces more && eqb last 32)
blank-push more last = list_all-append (λ b. eqb b 32) more (last ∷ []) ∙ ap (λ t. are_spaces more && t) (and-true (eqb last 32))

merged-plain : (t : Bool) (d : ℕ) → (t && eqb d 32) ≡ eqb (cond t d 120) 32
merged-plain true d = refl
merged-plain false d = refl

merged-cut : (t : Bool) (d : ℕ) → (t && (eqb d 13 || eqb d 32)) ≡ (eqb (cond t d 120) 13 || eqb (cond t d 120) 32)
merged-cut true d = refl
merged-cut false d = refl

StandsForEnd-push : (more : List ℕ) (last byte d : ℕ) → StandsForEnd more last byte → StandsForEnd (more ++ last ∷ []) d (merged byte d)
StandsForEnd-push more last byte d h =
    let blank : are_spaces (more ++ last ∷ []) ≡ eqb byte 32 = blank-push more last ∙ h.plain in
    record {
      plain = rw blank (merged-plain (eqb byte 32) d);
      cut = rw blank (merged-cut (eqb byte 32) d);
    }

StandsForEnd-one : (b : ℕ) → StandsForEnd [] b b
StandsForEnd-one b = record { plain = refl; cut = refl }

StandsFor-push : (line kept : List ℕ) (b : ℕ) → StandsFor line kept → StandsFor (line ++ b ∷ []) (kept_after kept b)
StandsFor-push line kept b (inl h) =
    let after : kept_after kept b ≡ line ++ b ∷ [] = kept_after-short kept b (omega (arith, ap length h.0)) ∙ ap (λ v. v ++ b ∷ []) h.0 in
    elim (cases_lt (length line) 257) [
      | inl short ↦ inl (after, omega (arith, length_push line b))
      | inr full ↦ inr
          (record {
            front = line;
            more = [];
            last = b;
            byte = b;
            full = omega arith;
            line_is = refl;
            kept_is = after;
            stands =
                StandsForEnd-one b;
          })
    ]
StandsFor-push line kept b (inr h) = inr (record {
  front = h.front;
  more = h.more ++ h.last ∷ [];
  last = b;
  byte = merged h.byte b;
  full = h.full;
  line_is = ap (λ v. v ++ b ∷ []) h.line_is ∙ append_assoc h.front (h.more ++ h.last ∷ []) (b ∷ []);
  kept_is = ap (λ v. kept_after v b) h.kept_is ∙ kept_after-long h.front h.byte b h.full;
  stands = StandsForEnd-push h.more h.last h.byte b h.stands;
})

pub IsPending-push : (line kept : List ℕ) (b : ℕ) → IsPending line kept → eqb b 10 ≡ false → IsPending (line ++ b ∷ []) (kept_after kept b)
IsPending-push line kept b h other = record {
  open_yet = All-push (λ x. eqb x 10 ≡ false) line b h.open_yet other;
  stands = StandsFor-push line kept b h.stands;
}

pub IsPending-empty : IsPending [] []
IsPending-empty = record { open_yet = search rules; stands = inl (refl, omega arith) }

-- 3. The readings are the same

-- what a line of more than 256 bytes says
too_long : List ℕ → Bool → Result Line EditFault
too_long front blank = cond (is_comment front || (are_spaces front && blank)) (Ok Skip) (Err Syntax)

is_comment-append : (front rest : List ℕ) → 0 < length front → is_comment (front ++ rest) ≡ is_comment front
is_comment-append [] rest some = absurd (omega arith)
is_comment-append (c ∷ front) rest some = refl

reading-long : (front rest : List ℕ) → length front ≡ 257 → line_of (front ++ rest) ≡ too_long front (are_spaces rest)
unfolding too_long
reading-long front rest full =
    let first = is_comment-append front rest (omega arith) in
    let blank : are_spaces (front ++ rest) ≡ (are_spaces front && are_spaces rest) = list_all-append (λ b. eqb b 32) front rest in
    let over : ltb 256 (length (front ++ rest)) ≡ true = lt-ltb 256 (length (front ++ rest)) (omega (arith, length-append front rest)) in
    rw (first, blank, over) refl

reading-cut : (front more : List ℕ) (last : ℕ) → length front ≡ 257 →
    line_of (strip_carriage_return (front ++ (more ++ last ∷ []))) ≡ too_long front (are_spaces more && (eqb last 13 || eqb last 32))
reading-cut front more last full =
    let strip : strip_carriage_return (front ++ (more ++ last ∷ [])) ≡ cond (eqb last 13) (front ++ more) ((front ++ more) ++ last ∷ []) =
    ap strip_carriage_return (sym (append_assoc front more (last ∷ []))) ∙ strip-push (front ++ more) last in
    ap line_of strip ∙ by_last (eqb last 13) refl
  where
    by_last : (t : Bool) → eqb last 13 ≡ t →
        line_of (cond t (front ++ more) ((front ++ more) ++ last ∷ [])) ≡ too_long front (are_spaces more && (t || eqb last 32))
    by_last true e = reading-long front more full ∙ ap (too_long front) (sym (and-true (are_spaces more)))
    by_last false e =
        ap line_of (append_assoc front more (last ∷ [])) ∙ reading-long front (more ++ last ∷ []) full
        ∙ ap (too_long front) (blank-push more last)

-- the kept bytes say what the line says, where it ends without a line feed ..
pub reading-kept : (line kept : List ℕ) → StandsFor line kept → line_of line ≡ line_of kept
reading-kept line kept (inl h) = ap line_of (sym h.0)
reading-kept line kept (inr h) =
    ap line_of h.line_is ∙ reading-long h.front (h.more ++ h.last ∷ []) h.full
    ∙ ap (too_long h.front) (blank-push h.more h.last ∙ h.stands.plain ∙ sym (and-true (eqb h.byte 32)))
    ∙ sym (reading-long h.front (h.byte ∷ []) h.full) ∙ sym (ap line_of h.kept_is)

-- .. and before one
pub reading-kept_cut : (line kept : List ℕ) → StandsFor line kept →
    line_of (strip_carriage_return line) ≡ line_of (strip_carriage_return kept)
reading-kept_cut line kept (inl h) = ap (λ v. line_of (strip_carriage_return v)) (sym h.0)
reading-kept_cut line kept (inr h) =
    ap (λ v. line_of (strip_carriage_return v)) h.line_is ∙ reading-cut h.front h.more h.last h.full
    ∙ ap (too_long h.front) h.stands.cut
    ∙ sym (reading-cut h.front [] h.byte h.full) ∙ sym (ap (λ v. line_of (strip_carriage_return v)) h.kept_is)

-- 4. Lines are cut off the front

lines_of_parts-cons : (x : List ℕ) (parts : List (List ℕ)) → 0 < length parts →
    lines_of_parts (x ∷ parts) ≡ strip_carriage_return x ∷ lines_of_parts parts
lines_of_parts-cons x [] l = absurd (omega arith)
lines_of_parts-cons x (y ∷ more) l = refl

pub lines-cut : (line rest : List ℕ) → All (λ b. eqb b 10 ≡ false) line →
    lines (line ++ 10 ∷ rest) ≡ strip_carriage_return line ∷ lines rest
lines-cut line rest open_yet =
    ap lines_of_parts (slice_split_at (λ b. eqb b 10) line 10 rest open_yet refl)
    ∙ lines_of_parts-cons line (slice_split (λ b. eqb b 10) rest) (omega (arith, length-slice_split (λ b. eqb b 10) rest))

pub lines-last : (line : List ℕ) → All (λ b. eqb b 10 ≡ false) line → lines line ≡ cond (eqb (length line) 0) [] (line ∷ [])
lines-last line open_yet = ap lines_of_parts (slice_split_none (λ b. eqb b 10) line open_yet)

-- a line is empty where nothing is kept of it
pub empty-kept : (line kept : List ℕ) → StandsFor line kept → eqb (length line) 0 ≡ eqb (length kept) 0
empty-kept line kept (inl h) = ap (λ v. eqb (length v) 0) (sym h.0)
empty-kept line kept (inr h) =
    let long : 0 < length line = omega (arith, length-append h.front (h.more ++ h.last ∷ []), ap length h.line_is, h.full) in
    let some : 0 < length kept = omega (arith, length-append h.front (h.byte ∷ []), ap length h.kept_is, h.full) in
    ne_eqb (length line) 0 (λ e. omega arith) ∙ sym (ne_eqb (length kept) 0 (λ e. omega arith))
