use Rattle.pd_expect.proofs.LowLemmas.{budget_seen}
use Rattle.pd_expect.proofs.low.next_budget.Goals as goal

pub loop-change-preserved : goal.loop-change-preserved
loop-change-preserved c =
    budget_seen c.args.at c.args.changes.now c.loop-change.change-index _ c.loop-change.soonest c.soonest_with-soonest.result
    c.loop-change-test.true c.loop-change.invariant c.soonest_with-soonest.ensures
