use Rattle.pd_save.proofs.Whole.{schema_is_whole}
use Rattle.pd_save.proofs.laws.schema_is_whole.Goals as goal

pub returns : goal.returns
returns c = schema_is_whole
