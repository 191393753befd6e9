use Rattle.pd_scenario.specs.Plans.{plan_of}
use Rattle.pd_report.proofs.WalkLemmas.{walk-start}
use Rattle.pd_report.proofs.least.least_with_room.Goals as goal

pub loop-walk-init : goal.loop-walk-init
loop-walk-init g c =
    let new = c.new-walk.ensures in
    record {
      walked =
          walk-start (plan_of c.args.scenario.now) (g.T.Runner.entries c.args.run.now) c.new-walk.result new.seen new.powers new.at
          new.before new.knows;
      end_is = c.end_time-end.ensures.value;
      least = new.at;
    }
