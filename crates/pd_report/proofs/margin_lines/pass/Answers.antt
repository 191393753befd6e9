use Rattle.std.proofs.Common.{arith}
use Rattle.pd_report.proofs.WalkLemmas.{walk-passes}
use Rattle.pd_report.proofs.margin_lines.pass.Goals as goal

pub returns-clause-walk : goal.returns-clause-walk
returns-clause-walk g c plan is =
    let next = c.next_with-walk.ensures in
    walk-passes plan (g.T.Runner.entries c.args.run.now) c.args.walk.now c.next_with-walk.result
    (omega (arith, next.not_before, c.requires)) next.within next.none_between is
