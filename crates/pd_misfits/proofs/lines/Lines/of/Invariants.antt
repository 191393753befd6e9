use Rattle.std.proofs.Common.{◌≡◌, ◌+◌, ◌≤◌}
use Rattle.pd_misfits.specs.Texts.{line_at}
use Rattle.pd_misfits.specs.Marks.{AreMarks, IsMark}
use Rattle.pd_misfits.proofs.lines.Lines.of.Given as goal

abbrev pub invariant-loop-i : goal.invariant-loop-i
invariant-loop-i l = record {
  marks : AreMarks l.text l.lines;
  mark : IsMark l.text l.mark;
  before : l.mark.at ≤ l.i;
  line : l.mark.line ≡ line_at l.text l.i;
  bound : l.mark.line ≤ 1 + l.i;
}
