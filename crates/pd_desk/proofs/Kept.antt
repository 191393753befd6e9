-- What is kept of a line gets the line's answer.
use Rattle.std.proofs.Common.{◌≡◌, ℕ, ◌<◌, Bool, true, false, cond, eqb, List, [], ◌∷◌, ◌++◌, length, Option, None, Result, Ok, Err}
use Rattle.std.proofs.Common.{inl, inr, refl, sym, ap, ◌∙◌, append_assoc, arith}
use Rattle.std.specs.Prelude.{◌⊎◌, codes}
use Rattle.std.specs.Str.Lines.{strip_carriage_return}
use Rattle.std.proofs.lemmas.Bool.{lt-ltb}
use Rattle.std.proofs.lemmas.List.{length-append}
use Rattle.pd_scenario.specs.Scenarios.{ScenarioData}
use Rattle.pd_edit_lines.specs.Grammar.{line_of}
use Rattle.pd_edit_lines.specs.Words.{words}
use Rattle.pd_edit_lines.specs.declared.line.Line.{Line}
use Rattle.pd_edit_lines.specs.declared.line.Line.TheVariants as lines_read
use Rattle.pd_edit_lines.specs.declared.fault.EditFault.{EditFault}
use Rattle.std.specs.Prelude.{◌≢◌, ◌||◌, if◌then◌else◌}
use Rattle.pd_edit_lines.specs.Grammar.{are_spaces, is_comment}
use Rattle.pd_edit_lines.specs.declared.fault.EditFault.TheVariants.{Syntax}
use Rattle.pd_bench.specs.declared.tally.Outcome.{Outcome}
use Rattle.pd_bench.specs.declared.tally.Outcome.TheVariants.{Skipped, Accepted, Refused, Shown}
use Rattle.pd_bench.specs.Session.{Reply}
use Rattle.pd_desk.specs.declared.colon.Colon.{Colon}
use Rattle.pd_desk.specs.Commands.{is_colon, is_quit, colon_of, quits, second}
use Rattle.pd_desk.specs.LineReasons.{no_line_text, reasons_of, reasons_text}
use Rattle.pd_bench.specs.Pending.{StandsFor}
use Rattle.pd_bench.proofs.PendingLemmas.{reading-kept, reading-kept_cut, strip-push}
use Rattle.pd_desk.specs.Desk.{DeskReply, TakesNote, OwnReply, ReplyBy, Standing, WithShelf}

-- two lines of more than 256 bytes, which say the same
record BothLong (a b : List ℕ) : Type 0 where
  pub first_long : 256 < length a
  pub second_long : 256 < length b
  pub reading : line_of a ≡ line_of b
  pub colon : is_colon a ≡ is_colon b

-- 1. Long lines

is_colon-append : (front rest : List ℕ) → 0 < length front → is_colon (front ++ rest) ≡ is_colon front
is_colon-append [] rest some = absurd (omega arith)
is_colon-append (c ∷ front) rest some = refl

both_long : (front a b rest others : List ℕ) → length front ≡ 257 → a ≡ front ++ rest → b ≡ front ++ others → line_of a ≡ line_of b →
    BothLong a b
both_long front a b rest others full first second same = record {
  first_long = omega (arith, ap length first, length-append front rest);
  second_long = omega (arith, ap length second, length-append front others);
  reading = same;
  colon = ap is_colon first ∙ is_colon-append front rest (omega arith) ∙ sym (is_colon-append front others (omega arith))
      ∙ sym (ap is_colon second);
}

-- what is left of a line without a carriage return at its end
strip-front : (front more : List ℕ) (last : ℕ) → (rest : List ℕ)
    × (strip_carriage_return (front ++ (more ++ last ∷ [])) ≡ front ++ rest)
strip-front front more last = by_last (eqb last 13) refl
  where
    strip : strip_carriage_return (front ++ (more ++ last ∷ [])) ≡ cond (eqb last 13) (front ++ more) ((front ++ more) ++ last ∷ [])
    strip = ap strip_carriage_return (sym (append_assoc front more (last ∷ []))) ∙ strip-push (front ++ more) last

    by_last : (t : Bool) → eqb last 13 ≡ t → (rest : List ℕ)
        × (strip_carriage_return (front ++ (more ++ last ∷ [])) ≡ front ++ rest)
    by_last true e = (more, strip ∙ ap (λ (t : Bool). cond t (front ++ more) ((front ++ more) ++ last ∷ [])) e)
    by_last false e = (
      more ++ last ∷ [],
      strip ∙ ap (λ (t : Bool). cond t (front ++ more) ((front ++ more) ++ last ∷ [])) e ∙ append_assoc front more (last ∷ []),
    )

-- 2. What is kept

same_kept : (line kept : List ℕ) → StandsFor line kept → (line ≡ kept) ⊎ BothLong line kept
same_kept line kept (inl h) = inl (sym h.0)
same_kept line kept (inr h) = inr
    (both_long h.front line kept (h.more ++ h.last ∷ []) (h.byte ∷ []) h.full h.line_is h.kept_is (reading-kept line kept (inr h)))

same_cut : (line kept : List ℕ) → StandsFor line kept →
    (strip_carriage_return line ≡ strip_carriage_return kept) ⊎ BothLong (strip_carriage_return line) (strip_carriage_return kept)
same_cut line kept (inl h) = inl (ap strip_carriage_return (sym h.0))
same_cut line kept (inr h) =
    let first = strip-front h.front h.more h.last in
    let second = strip-front h.front [] h.byte in
    inr
    (both_long h.front (strip_carriage_return line) (strip_carriage_return kept) first.0 second.0 h.full
    (ap strip_carriage_return h.line_is ∙ first.1)
    (ap strip_carriage_return h.kept_is ∙ second.1) (reading-kept_cut line kept (inr h)))

-- 3. The answers

long_text : (line : List ℕ) → 256 < length line → no_line_text line ≡ codes "the line has more than 256 bytes\n"
unfolding no_line_text
long_text line long = rw (lt-ltb 256 (length line) long) refl

reasons_of-long : (n : ℕ) (s : ScenarioData) (a b : List ℕ) (r : Result Line EditFault) → BothLong a b →
    reasons_of n s a r ≡ reasons_of n s b r
reasons_of-long n s a b (Ok lines_read.Skip) h = refl
reasons_of-long n s a b (Ok (lines_read.Edit edit)) h = refl
reasons_of-long n s a b (Ok (lines_read.Show show)) h = refl
reasons_of-long n s a b (Err fault) h = long_text a h.first_long ∙ sym (long_text b h.second_long)

reasons_text-long : (n : ℕ) (s : ScenarioData) (a b : List ℕ) → BothLong a b → reasons_text n s a ≡ reasons_text n s b
unfolding reasons_text
reasons_text-long n s a b h =
    ap (λ (r : Result Line EditFault). reasons_of n s a r) h.reading ∙ reasons_of-long n s a b (line_of b) h

own_none : (n : ℕ) (d : WithShelf) (line other reply told : List ℕ) (d' : WithShelf) →
    OwnReply n d None line reply told d' → OwnReply n d None other reply told d'
own_none n d line other reply told d' (inl h) = absurd h.0
own_none n d line other reply told d' (inr h) = inr h

colon_of-long : (line : List ℕ) → 256 < length line → colon_of line ≡ None
colon_of-long line long = rw (lt-ltb 256 (length line) long) refl

-- no edit is made by such a line
not_made : (line : List ℕ) → 256 < length line → (line_of line ≡ Ok lines_read.Skip) ⊎ (line_of line ≡ Err Syntax)
not_made line long = by_skip (is_comment line || are_spaces line) refl
  where
    by_skip : (t : Bool) → (is_comment line || are_spaces line) ≡ t → (line_of line ≡ Ok lines_read.Skip) ⊎ (line_of line ≡ Err Syntax)
    by_skip true e = inl (rw e refl)
    by_skip false e = inr (rw (e, lt-ltb 256 (length line) long) refl)

not_accepted : (n : ℕ) (s : ScenarioData) (r : Result Line EditFault) (reply : List ℕ) (s' : ScenarioData) (outcome : Outcome) →
    (r ≡ Ok lines_read.Skip) ⊎ (r ≡ Err Syntax) → Reply n s r reply s' outcome → outcome ≢ Accepted
not_accepted n s r reply s' outcome (inl is) h =
    let skipped = rw is at h in λ e. let both = sym skipped.2 ∙ e in absurd (cc)
not_accepted n s r reply s' outcome (inr is) h =
    let refused = rw is at h in λ e. let both = sym refused.2 ∙ e in absurd (cc)

-- so it doesn't matter what would be noted
TakesNote-other : (outcome : Outcome) (d : Standing) (a b : List ℕ) (d' : Standing) → outcome ≢ Accepted → TakesNote outcome d b d' →
    TakesNote outcome d a d'
TakesNote-other Accepted d a b d' other h = absurd (other refl)
TakesNote-other Skipped d a b d' other h = h
TakesNote-other Refused d a b d' other h = h
TakesNote-other Shown d a b d' other h = h

by_colon : (t : Bool) (n : ℕ) (d : WithShelf) (a b reply told : List ℕ) (d' : WithShelf) → BothLong a b →
    ReplyBy t n d b reply told d' → ReplyBy t n d a reply told d'
by_colon true n d a b reply told d' h own =
    let none = rw (colon_of-long b h.second_long) at own in
    rw (colon_of-long a h.first_long) (own_none n d b a reply told d' none)
by_colon false n d a b reply told d' h (told_reply, shelf) =
    let outcome = told_reply.0 in
    let becomes = told_reply.1 in
    let other = not_accepted n d.desk.scenario (line_of b) reply d'.desk.scenario outcome (not_made b h.second_long) becomes.0 in
    rw (h.reading, reasons_text-long n d.desk.scenario a b h) (
      (outcome, (becomes.0, becomes.1, TakesNote-other outcome d.desk a b d'.desk other becomes.2), told_reply.2),
      shelf,
    )

DeskReply-same : (n : ℕ) (d : WithShelf) (a b reply told : List ℕ) (d' : WithShelf) → (a ≡ b) ⊎ BothLong a b →
    DeskReply n d b reply told d' → DeskReply n d a reply told d'
DeskReply-same n d a b reply told d' (inl e) h = rw e h
DeskReply-same n d a b reply told d' (inr e) h = rw e.colon (by_colon (is_colon b) n d a b reply told d' e h)

-- a last line
pub DeskReply-kept : (n : ℕ) (d : WithShelf) (line kept reply told : List ℕ) (d' : WithShelf) → StandsFor line kept →
    DeskReply n d kept reply told d' → DeskReply n d line reply told d'
DeskReply-kept n d line kept reply told d' stands h = DeskReply-same n d line kept reply told d' (same_kept line kept stands) h

-- a line that a line feed ends
pub DeskReply-cut : (n : ℕ) (d : WithShelf) (line kept reply told : List ℕ) (d' : WithShelf) → StandsFor line kept →
    DeskReply n d (strip_carriage_return kept) reply told d' → DeskReply n d (strip_carriage_return line) reply told d'
DeskReply-cut n d line kept reply told d' stands h =
    DeskReply-same n d (strip_carriage_return line) (strip_carriage_return kept) reply told d' (same_cut line kept stands) h

-- 4. The line that ends the session

never_quits : (t : Bool) (own : Option Colon) → own ≡ None → (if t then quits own else false) ≡ false
never_quits true own e = ap quits e
never_quits false own e = refl

is_quit-same : (a b : List ℕ) → (a ≡ b) ⊎ BothLong a b → is_quit a ≡ is_quit b
is_quit-same a b (inl e) = ap is_quit e
is_quit-same a b (inr e) =
    never_quits (is_colon a) (colon_of a) (colon_of-long a e.first_long)
    ∙ sym (never_quits (is_colon b) (colon_of b) (colon_of-long b e.second_long))

pub is_quit-cut : (line kept : List ℕ) → StandsFor line kept → is_quit (strip_carriage_return line) ≡ is_quit (strip_carriage_return kept)
is_quit-cut line kept stands = is_quit-same (strip_carriage_return line) (strip_carriage_return kept) (same_cut line kept stands)
