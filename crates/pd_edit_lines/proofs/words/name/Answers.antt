use Rattle.std.proofs.Common.{sym}
use Rattle.pd_edit_lines.proofs.FirstWord.{name_text}
use Rattle.pd_edit_lines.proofs.words.name.Goals as goal

pub returns-in-Err : goal.returns-in-Err
returns-in-Err c = absurd (c.in-Err.ensures.cases.0 (name_text c.args.word.now (sym c.if-not-is_name.ensures)))
