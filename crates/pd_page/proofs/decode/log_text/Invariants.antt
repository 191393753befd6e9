use Rattle.std.proofs.Common.{◌+◌, ◌≤◌, length}
use Rattle.std.specs.Str.Lines.{lines}
use Rattle.pd_page.proofs.LogLemmas.{GoesOn}
use Rattle.pd_page.proofs.decode.log_text.Given as goal

abbrev pub invariant-loop-line : goal.invariant-loop-line
invariant-loop-line l = record {
  text : GoesOn (lines l.log) l.number l.begun l.text.items (lines l.rest);
  count : l.number + length l.rest ≤ length l.log + 1;
}

abbrev pub decreases-loop-line : goal.decreases-loop-line
decreases-loop-line l = length l.rest
