use Rattle.std.proofs.lemmas.Result.{on_ok_weaker}
use Rattle.pd_why.proofs.wants.push_demand.Goals as goal

pub returns : goal.returns
returns c = on_ok_weaker c.push_pieces.result (λ h. rw c.mode_piece.ensures at h) c.push_pieces.ensures
