use Rattle.std.proofs.Common.{length, arith}
use Rattle.pd_log.proofs.Digits.{of_four}
use Rattle.pd_log.proofs.numbers.short_of.Goals as goal

pub overflow_cast-result : goal.overflow_cast-result
overflow_cast-result c =
    let few = of_four (length c.args.digits.now) c.in_ok-number_of.field-0 c.in_ok-number_of.ensures.fits (omega arith) in omega arith
