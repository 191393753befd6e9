use Rattle.pd_scenario.specs.Plans.{plan_of}
use Rattle.pd_scenario.proofs.Places.{put-in-order}
use Rattle.pd_scenario.proofs.by_time.put_in_order.Goals as goal

pub gather-count-requires : goal.gather-count-requires
unfolding plan_of
gather-count-requires g c = rw c.events.ensures.value (record { enough = c.requires.enough })

pub returns-clause-order : goal.returns-clause-order
unfolding plan_of
returns-clause-order g c =
    put-in-order c.args.scenario.now.events c.gather-count.new.room c.sort.new.changes c.gather-count.result c.gather-count.ensures.within
    (rw (← c.events.ensures.value) c.gather-count.ensures.all)
    c.sort.ensures.same c.sort.ensures.in_order c.events.ensures.is_valid.events_differ
