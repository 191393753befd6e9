use Rattle.std.proofs.Common.{◌≡◌, ℕ, ◌||◌, List, length}
use Rattle.std.specs.Prelude.{bytes_eq}
use Rattle.std.specs.List.{list_any}
use Rattle.std.specs.Str.Lines.{lines}
use Rattle.pd_desk.specs.Diff.{has_line}
use Rattle.pd_desk.proofs.diff.lines_of.Given as goal

abbrev pub invariant-loop-line : goal.invariant-loop-line
invariant-loop-line l =
    (line : List ℕ) → (list_any (λ other. bytes_eq line other.now) l.found.keys || has_line (lines l.rest) line)
    ≡ has_line (lines l.text) line

abbrev pub decreases-loop-line : goal.decreases-loop-line
decreases-loop-line l = length l.rest
