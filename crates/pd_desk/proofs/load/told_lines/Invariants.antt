use Rattle.std.proofs.Common.{◌≡◌, ◌+◌, ◌≤◌, ◌++◌, length}
use Rattle.std.specs.Str.Lines.{lines}
use Rattle.pd_explain_text.specs.Told.{script_told}
use Rattle.pd_desk.proofs.load.told_lines.Given as goal

abbrev pub invariant-loop-line : goal.invariant-loop-line
invariant-loop-line g l = record {
  told :
      l.told.items ++ script_told l.file g.row.N l.edited l.number (lines l.rest)
      ≡ script_told l.file g.row.N l.scenario 1 (lines l.script);
  count : l.number + length l.rest ≤ length l.script + 1;
}

abbrev pub decreases-loop-line : goal.decreases-loop-line
decreases-loop-line g l = length l.rest
