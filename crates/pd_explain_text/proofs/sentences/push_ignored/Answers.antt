use Rattle.std.proofs.lemmas.Result.{on_ok_weaker}
use Rattle.pd_explain_text.proofs.sentences.push_ignored.Goals as goal

pub returns : goal.returns
returns c = on_ok_weaker c.push_pieces.result (λ h. rw c.why_words.ensures at h) c.push_pieces.ensures
