use Rattle.std.proofs.Common.{ap, arith}
use Rattle.std.specs.Prelude.{nat_le}
use Rattle.pd_scenario.specs.Plans.{change_of, plan_of}
use Rattle.pd_scenario.proofs.Lists.{length-filter_map}
use Rattle.pd_scenario.proofs.by_time.has_few_changes.Goals as goal

pub returns-clause-few : goal.returns-clause-few
unfolding plan_of
returns-clause-few g c = rw (← c.events.ensures.value) (ap (λ n. nat_le n 64) c.count_changes.ensures)

pub returns-clause-most : goal.returns-clause-most
unfolding plan_of
returns-clause-most g c =
    let count = length-filter_map change_of c.args.scenario.now.events in
    omega (arith, count, c.events.ensures.is_valid.few_events)
