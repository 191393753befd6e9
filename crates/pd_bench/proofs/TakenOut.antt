-- The lines of a script without one of them.
use Rattle.std.proofs.Common.{◌≡◌, ℕ, ◌<◌, false, List, [], ◌∷◌, ◌++◌, length, map, refl, sym, ap, ◌∙◌, append_assoc, arith, eqb}
use Rattle.std.specs.Prelude.{All}
use Rattle.std.specs.Str.Lines.{lines, strip_carriage_return}
use Rattle.std.proofs.lemmas.Bool.{ne_eqb}
use Rattle.std.proofs.lemmas.List.{append-nil}
use Rattle.std.proofs.lemmas.List.Elements.{All-tail}
use Rattle.pd_bench.specs.Traces.{HasNoLineFeed, LinesCanBeTakenOut, ended}
use Rattle.pd_bench.proofs.PendingLemmas.{lines-cut, lines-last}

-- ended lines in front of others
lines-ended : (front : List (List ℕ)) (rest : List ℕ) → All HasNoLineFeed front →
    lines (ended front ++ rest) ≡ map strip_carriage_return front ++ lines rest
lines-ended [] rest h = refl
lines-ended (line ∷ more) rest h =
    ap lines (append_assoc line (10 ∷ ended more) rest)
    ∙ lines-cut line (ended more ++ rest) (h 0 line (omega arith))
    ∙ ap (λ (l : List (List ℕ)). strip_carriage_return line ∷ l) (lines-ended more rest (All-tail HasNoLineFeed line more h))

one_line : (line : List ℕ) → HasNoLineFeed line → 0 < length line → lines line ≡ line ∷ []
one_line line h some =
    let is : eqb (length line) 0 ≡ false = ne_eqb (length line) 0 (λ e. omega arith) in
    rw (lines-last line h, is) refl

pub lines_can_be_taken_out : LinesCanBeTakenOut
lines_can_be_taken_out = record {
  ended_line = λ front line rest h k. record {
    with_line =
        lines-ended front (line ++ 10 ∷ rest) h ∙ ap (λ (l : List (List ℕ)). map strip_carriage_return front ++ l) (lines-cut line rest k);
    without_line = lines-ended front rest h;
  };
  last_line = λ front line h k some. record {
    with_line = lines-ended front line h ∙ ap (λ (l : List (List ℕ)). map strip_carriage_return front ++ l) (one_line line k some);
    without_line = ap lines (sym (append-nil (ended front))) ∙ lines-ended front [] h;
  };
}
