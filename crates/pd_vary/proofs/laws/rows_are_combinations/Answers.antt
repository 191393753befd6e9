use Rattle.pd_vary.proofs.Rows.{rows_combine}
use Rattle.pd_vary.proofs.laws.rows_are_combinations.Goals as goal

pub returns : goal.returns
returns c = rows_combine
