-- Facts on the time of the last line.
use Rattle.std.proofs.Common.{◌≡◌, ◌∙◌, ℕ, List, [], ◌∷◌, ◌++◌, arith, length, map, refl, sym}
use Rattle.std.specs.Prelude.{◌==◌, Bool, false, Some, true}
use Rattle.std.proofs.lemmas.Bool.{eqb-false, eqb-true}
use Rattle.pd_line.specs.declared.notes.Fault.{Fault}
use Rattle.pd_line.specs.declared.notes.Start.{Start}
use Rattle.pd_line.specs.declared.notes.Start.TheVariants.{Packet, HardReset}
use Rattle.pd_tell.specs.Members.{start_kind, start_members}
use Rattle.pd_tell.specs.Words.{start_words}
use Rattle.pd_show.specs.declared.seen.Seen.{Seen}
use Rattle.pd_show.specs.Choices.{whole}
use Rattle.pd_show.specs.Lines.{Line, fault_line, line_of, start_lines}
use Rattle.pd_show.specs.Pages.{last_at}
use Rattle.pd_show.proofs.PageLemmas.{last_at-append}

-- no fault leaves the time of the last line
pub none_at : (t : ℕ) (seen : Seen) (fs : List Fault) (b : Bool) → b ≡ (length fs == 0) → b ≡ true
    → t ≡ last_at t (map (fault_line seen) fs)
none_at t seen [] b e h = refl
none_at t seen (f ∷ fs) b e h =
    let none : length (f ∷ fs) ≡ 0 = eqb-true (length (f ∷ fs)) 0 (sym e ∙ h) in
    absurd (omega arith)

-- the last of some faults stands at the move's time
some_at : (t : ℕ) (seen : Seen) (f : Fault) (fs : List Fault) → last_at t (map (fault_line seen) (f ∷ fs)) ≡ seen.entry.at
some_at t seen f [] = refl
some_at t seen f (g ∷ gs) = some_at seen.entry.at seen g gs

pub last_fault_at : (t : ℕ) (seen : Seen) (fs : List Fault) (b : Bool) → b ≡ (length fs == 0) → b ≡ false
    → seen.entry.at ≡ last_at t (map (fault_line seen) fs)
last_fault_at t seen [] b e h = absurd (eqb-false 0 0 (sym e ∙ h) refl)
last_fault_at t seen (f ∷ fs) b e h = sym (some_at t seen f fs)

-- the line of what starts on the line, where all there is is shown
abbrev pub start_line : Seen → Start → Line
start_line seen start = line_of seen (start_kind start) (start_words false seen.by start) (start_members false seen.by start)

pub starts_line : (seen : Seen) (start : Start) → start_lines whole seen (Some start) ≡ start_line seen start ∷ []
starts_line seen (Packet side packet fate) = refl
starts_line seen (HardReset side) = refl

pub start_at : (t : ℕ) (seen : Seen) (start : Start) → last_at t (start_lines whole seen (Some start)) ≡ seen.entry.at
start_at t seen start = rw (starts_line seen start) refl

-- parts of a move, one after the other
pub after_two : (t t1 t2 : ℕ) (a b : List Line) → t1 ≡ last_at t a → t2 ≡ last_at t1 b → t2 ≡ last_at t (a ++ b)
after_two t t1 t2 a b h1 h2 = rw (h2, h1, last_at-append) refl

pub after_five : (t t1 t2 t3 t4 t5 : ℕ) (a b c d e : List Line) → t1 ≡ last_at t a → t2 ≡ last_at t1 b → t3 ≡ last_at t2 c →
    t4 ≡ last_at t3 d → t5 ≡ last_at t4 e → t5 ≡ last_at t (a ++ (b ++ (c ++ (d ++ e))))
after_five t t1 t2 t3 t4 t5 a b c d e h1 h2 h3 h4 h5 = rw (h5, h4, h3, h2, h1) (simp last_at-append)
