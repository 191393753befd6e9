use Rattle.std.proofs.Common.{◌≡◌, ℕ, ◌<◌, List}
use Rattle.pd_run.specs.Live.{LiveData, StandsBut, port_at}
use Rattle.pd_run.specs.Run.{Move}
use Rattle.pd_keep.specs.Following.{IsAway}
use Rattle.pd_keep.specs.Kept.{left_by}
use Rattle.pd_keep.proofs.Following.{marks_from}
use Rattle.pd_keep.proofs.follow.take_up.Given as goal

abbrev pub invariant-loop-port : goal.invariant-loop-port
invariant-loop-port g l = (past : List Move) (whole : LiveData) → StandsBut l.plan past l.away whole l.fn.live
    → ((p : ℕ) → p < g.row.N → IsAway l.away p → left_by l.old.first l.old.moves p ≡ port_at whole p)
    → StandsBut l.plan past (marks_from l.port l.away) whole l.live
