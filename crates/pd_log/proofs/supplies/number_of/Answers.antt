use Rattle.std.proofs.Common.{arith}
use Rattle.pd_log.proofs.Digits.{of_five}
use Rattle.pd_log.proofs.supplies.number_of.Goals as goal

pub overflow_mul-number : goal.overflow_mul-number
overflow_mul-number c =
    let few = of_five c.loop-digit.digit-index c.loop-digit.number c.loop-digit.invariant.1 (omega arith) in omega arith

pub overflow_add-number : goal.overflow_add-number
overflow_add-number c =
    let few = of_five c.loop-digit.digit-index c.loop-digit.number c.loop-digit.invariant.1 (omega arith) in omega arith
