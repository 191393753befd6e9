use Rattle.pd_edit_lines.proofs.Grammar.{table_is_grammar}
use Rattle.pd_edit_lines.proofs.laws.table_is_grammar.Goals as goal

pub returns : goal.returns
returns c = table_is_grammar
