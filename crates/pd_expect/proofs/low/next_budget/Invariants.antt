use Rattle.std.proofs.Common.{take}
use Rattle.pd_expect.specs.OverTime.{IsSoonest}
use Rattle.pd_expect.proofs.LowLemmas.{budget_times}
use Rattle.pd_expect.proofs.low.next_budget.Given as goal

abbrev pub invariant-loop-change : goal.invariant-loop-change
invariant-loop-change l = IsSoonest (budget_times (take l.change-index l.changes)) l.at l.soonest
