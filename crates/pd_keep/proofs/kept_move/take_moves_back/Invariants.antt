use Rattle.std.proofs.Common.{length}
use Rattle.pd_keep.proofs.kept_move.take_moves_back.Given as goal

abbrev pub decreases-loop-kept : goal.decreases-loop-kept
decreases-loop-kept l = length l.moves.items
