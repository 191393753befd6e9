use Rattle.std.proofs.Common.{arith, subst, sym}
use Rattle.pd_scenario.specs.Plan.{Plan}
use Rattle.pd_scenario.specs.Plans.{plan_of}
use Rattle.pd_report.specs.declared.least.Margin.{Margin}
use Rattle.pd_expect.specs.OverTime.{Moves}
use Rattle.pd_expect.proofs.LowLemmas.{IsLeastSoFar, least_seen}
use Rattle.pd_expect.proofs.low.least_of.Goals as goal

pub loop-at-smaller : goal.loop-at-smaller
loop-at-smaller g c =
    let next = c.in-Some.ensures (plan_of c.args.scenario.now) c.requires.changes in
    omega (arith, next.0, c.loop-at-test.true)

pub loop-at-preserved : goal.loop-at-preserved
loop-at-preserved g c =
    let plan : Plan = plan_of c.args.scenario.now in
    let moves : Moves = g.T.Runner.entries c.args.run.now in
    let next = c.in-Some.ensures plan c.requires.changes in
    record {
      after_start = omega (arith, c.loop-at.invariant.after_start, next.0);
      least_is =
          subst (λ (m : Margin). IsLeastSoFar plan moves c.args.from c.args.to c.in-Some.next m) (sym c.lesser-least.ensures)
          (least_seen plan moves c.args.from c.loop-at.at c.in-Some.next next.1 c.args.to c.margin_at-left.result c.loop-at.least
          c.loop-at.invariant.after_start c.loop-at-test.true c.margin_at-left.ensures c.loop-at.invariant.least_is);
    }
