use Rattle.std.proofs.Common.{◌≡◌, ◌+◌, ◌≤◌, length, take, filter}
use Rattle.pd_misfits.specs.Texts.{ends_line}
use Rattle.pd_misfits.proofs.text.line_at.Given as goal

abbrev pub invariant-loop-byte : goal.invariant-loop-byte
invariant-loop-byte l = record {
  value : l.line ≡ 1 + length (filter ends_line (take l.byte-index l.text));
  bound : l.line ≤ 1 + l.byte-index;
}
