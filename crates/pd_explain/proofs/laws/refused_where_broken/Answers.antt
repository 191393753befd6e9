use Rattle.pd_explain.proofs.WhereBroken.{refused_where_broken}
use Rattle.pd_explain.proofs.laws.refused_where_broken.Goals as goal

pub returns : goal.returns
returns c = refused_where_broken
