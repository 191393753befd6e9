use Rattle.pd_expect.proofs.TableLemmas.{table_is_grammar}
use Rattle.pd_expect.proofs.laws.table_is_grammar.Goals as goal

pub returns : goal.returns
returns c = table_is_grammar
