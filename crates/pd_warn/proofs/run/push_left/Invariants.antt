use Rattle.std.proofs.Common.{◌≡◌, ◌+◌, ◌++◌, drop}
use Rattle.pd_warn.specs.Warnings.{left_part}
use Rattle.pd_warn.proofs.run.push_left.Given as goal

abbrev pub invariant-loop-watch : goal.invariant-loop-watch
invariant-loop-watch l = record {
  parts : l.initial.out.items ++ left_part 1 l.watches ≡ l.out.items ++ left_part l.port (drop l.watch-index l.watches);
  count : l.port ≡ l.watch-index + 1;
}
