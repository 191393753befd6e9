use Rattle.pd_units.proofs.Digits.{fits}
use Rattle.pd_units.proofs.quantity.digits.Goals as goal

pub returns-clause-fits : goal.returns-clause-fits
returns-clause-fits c = rw (c.number.ensures) (fits c.args.word.now)
