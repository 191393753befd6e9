use Rattle.pd_places.proofs.AnswerFirst.{answer_first}
use Rattle.pd_places.proofs.laws.answer_is_first.Goals as goal

pub returns : goal.returns
returns c = answer_first
