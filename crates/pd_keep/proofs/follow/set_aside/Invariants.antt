use Rattle.std.proofs.Common.{◌≡◌, List, take}
use Rattle.pd_scenario.specs.Plan.{Plan, count}
use Rattle.pd_run.specs.Live.{StandsAfter, StandsBut}
use Rattle.pd_run.specs.Run.{Move}
use Rattle.pd_keep.proofs.follow.set_aside.Given as goal

abbrev pub invariant-loop-port : goal.invariant-loop-port
invariant-loop-port g l = (plan : Plan) (past : List Move) → count plan ≡ g.row.N → StandsAfter plan past l.fn.live
    → StandsBut plan past (take l.port l.away) l.fn.live l.live
