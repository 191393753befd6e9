use Rattle.std.proofs.Common.{◌≡◌, ◌-◌, ◌≤◌, ◌++◌}
use Rattle.pd_keep.specs.Kept.{moves_from}
use Rattle.pd_keep.proofs.kept_move.KeptMoves.push_all_again.Given as goal

abbrev pub invariant-loop-i : goal.invariant-loop-i
invariant-loop-i l = record {
  pushed : l.self ≡ record l.fn.self { moves = l.fn.self.moves ++ moves_from l.old.moves l.from (l.i - l.from) };
  within : l.i ≤ l.to;
}
