use Rattle.pd_keep.specs.Following.{KeepHold}
use Rattle.pd_keep.proofs.follow.keep_hold.Given as goal

abbrev pub invariant-loop-i : goal.invariant-loop-i
invariant-loop-i l = KeepHold l.old.moves l.from l.i
