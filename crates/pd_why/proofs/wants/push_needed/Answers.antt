use Rattle.std.proofs.lemmas.Result.{on_ok_weaker}
use Rattle.pd_why.proofs.wants.push_needed.Goals as goal

pub returns-in-None : goal.returns-in-None
returns-in-None c = on_ok_weaker c.push_pieces.result (λ h. rw c.in-None.is h) c.push_pieces.ensures

pub returns-in-Some : goal.returns-in-Some
returns-in-Some c = on_ok_weaker c.push_pieces-in-Some.result (λ h. rw c.in-Some.is h) c.push_pieces-in-Some.ensures
