use Rattle.std.proofs.lemmas.Result.{on_ok_weaker}
use Rattle.pd_explain_text.proofs.sentences.push_unmet.Goals as goal

pub returns : goal.returns
returns c = on_ok_weaker c.push_pieces.result (λ h. rw c.until_piece.ensures at h) c.push_pieces.ensures
