use Rattle.std.proofs.Common.{◌≡◌, ◌≤◌}
use Rattle.pd_keep.proofs.kept_move.KeptMoves.owned_beyond.Given as goal

abbrev pub invariant-loop-kept : goal.invariant-loop-kept
invariant-loop-kept l = record { few : l.count ≤ l.kept-index; all : l.owners ≡ 0 → l.count ≡ l.kept-index }
