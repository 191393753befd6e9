use Rattle.std.proofs.Common.{All, take}
use Rattle.pd_run.proofs.Agree.{IsSameAt}
use Rattle.pd_run.proofs.beside.same_at.Given as goal

abbrev pub invariant-loop-change : goal.invariant-loop-change
invariant-loop-change g l = All (IsSameAt l.old l.plan l.from l.to) (take l.change-index l.changes)
