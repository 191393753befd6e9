use Rattle.std.proofs.Common.{◌≡◌, ◌++◌, length}
use Rattle.std.specs.Str.Lines.{lines}
use Rattle.pd_desk.specs.Diff.{own_lines}
use Rattle.pd_desk.proofs.diff.push_own_lines.Given as goal

abbrev pub invariant-loop-line : goal.invariant-loop-line
invariant-loop-line l =
    l.said.items ++ own_lines l.sign (lines l.other) (lines l.rest)
    ≡ l.initial.said.items ++ own_lines l.sign (lines l.other) (lines l.text)

abbrev pub decreases-loop-line : goal.decreases-loop-line
decreases-loop-line l = length l.rest
