use Rattle.std.proofs.Common.{◌+◌, ◌≤◌, length}
use Rattle.std.specs.Str.Lines.{lines}
use Rattle.pd_expect.proofs.LineLemmas.{GoesOn}
use Rattle.pd_expect.proofs.script.test_lines.Given as goal

abbrev pub invariant-loop-line : goal.invariant-loop-line
invariant-loop-line g l = record {
  cases : GoesOn g.row.N l.initial.scenario l.name (lines l.script) l.scenario l.number l.cases.items (lines l.rest);
  count : l.number + length l.rest ≤ length l.script + 1;
}

abbrev pub decreases-loop-line : goal.decreases-loop-line
decreases-loop-line g l = length l.rest
