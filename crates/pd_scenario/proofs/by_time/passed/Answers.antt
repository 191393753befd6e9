use Rattle.std.proofs.Common.{arith}
use Rattle.pd_scenario.proofs.Places.{ahead-from}
use Rattle.pd_scenario.proofs.by_time.passed.Goals as goal

pub returns-else-order-place-clause-stands : goal.returns-else-order-place-clause-stands
returns-else-order-place-clause-stands c = record {
  within = c.loop-place.invariant.within;
  past = c.loop-place.invariant.past;
  ahead = ahead-from c.args.order.now c.loop-place.place c.args.at (record { id = 0; at = 0; budget = 0 }) c.requires.in_order
      (omega (arith, c.if-order-place.false));
}
