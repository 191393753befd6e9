use Rattle.pd_scenario.specs.Script.{script}
use Rattle.pd_scenario.proofs.Plans.{one_each}
use Rattle.pd_scenario.proofs.order.script.Goals as goal

pub in_order-requires : goal.in_order-requires
in_order-requires g c =
    rw c.in_ok-made.ensures
    (one_each c.args.ports c.args.cables.now c.args.sinks.now c.args.events.now c.requires.fit c.requires.differ c.args.port)

pub returns : goal.returns
unfolding script
returns g c = rw c.in_ok-made.ensures at c.in_order.ensures
