use Rattle.pd_keep.specs.Kept.{AreRankedTo}
use Rattle.pd_keep.proofs.kept_move.KeptMoves.rises.Given as goal

abbrev pub invariant-loop-i : goal.invariant-loop-i
invariant-loop-i l = AreRankedTo l.self.moves l.i
