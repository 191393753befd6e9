use Rattle.std.proofs.Common.{◌≡◌, ◌<◌, ◌≤◌, length, take, filter}
use Rattle.pd_misfits.specs.Texts.{ends_line}
use Rattle.pd_places.proofs.cut.cut_len.Given as goal

abbrev pub invariant-loop-i : goal.invariant-loop-i
invariant-loop-i l = record {
  value : l.count ≡ length (filter ends_line (take l.i l.text));
  few : l.count < l.most;
  bound : l.count ≤ l.i;
}
