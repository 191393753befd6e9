use Rattle.std.proofs.Common.{arith, refl}
use Rattle.pd_misfits.proofs.Digits.{all_digits, more_digits, no_digits}
use Rattle.pd_misfits.proofs.fractions.push_digits.Goals as goal

pub returns-then-rest-eq0 : goal.returns-then-rest-eq0
returns-then-rest-eq0 c = no_digits _ _ c.loop.rest c.loop.counter c.if-rest-eq0.true c.loop.invariant.digits

pub loop-preserved : goal.loop-preserved
loop-preserved c = record {
  digits = rw c.in_ok-push.ensures.items
      (more_digits c.loop.text.items _ _ c.loop.rest c.loop.counter c.loop-test.true c.if-rest-eq0.false refl c.loop.invariant.digits);
  few = omega arith;
}

pub returns : goal.returns
returns c = all_digits _ _ c.loop.rest c.loop.counter (omega arith) c.loop.invariant.digits
