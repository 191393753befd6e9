use Rattle.std.proofs.lemmas.Result.{on_ok_weaker}
use Rattle.pd_why.proofs.idle.push_idle.Goals as goal

pub returns-in-Off : goal.returns-in-Off
returns-in-Off c = on_ok_weaker c.push_pieces.result (λ h. rw c.in-Off.is h) c.push_pieces.ensures
