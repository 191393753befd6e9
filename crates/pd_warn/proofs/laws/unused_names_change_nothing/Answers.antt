use Rattle.pd_warn.proofs.Unused.{unused_names_change_nothing}
use Rattle.pd_warn.proofs.laws.unused_names_change_nothing.Goals as goal

pub returns : goal.returns
returns c = unused_names_change_nothing
