use Rattle.std.proofs.Common.{List}
use Rattle.pd_run.specs.Run.{Move}
use Rattle.pd_keep.specs.Rerun.{GoesOnWith}
use Rattle.pd_keep.proofs.Asked.{AnsweredSoFar}
use Rattle.pd_keep.proofs.answered.are_answered.Given as goal

abbrev pub invariant-loop-i : goal.invariant-loop-i
invariant-loop-i g l = (past : List Move) → GoesOnWith g.row.N l.plan past l.span
    → AnsweredSoFar l.plan past l.span.moves l.i l.shared
