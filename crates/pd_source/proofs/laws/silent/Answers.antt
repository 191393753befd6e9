use Rattle.pd_source.proofs.Silent.{silent-off, silent-shed, silent-stepped}
use Rattle.pd_source.proofs.laws.silent.Goals as goal

pub returns-clause-off : goal.returns-clause-off
returns-clause-off c = silent-off

pub returns-clause-sheds : goal.returns-clause-sheds
returns-clause-sheds c = silent-shed

pub returns-clause-stays : goal.returns-clause-stays
returns-clause-stays c = silent-stepped
