use Rattle.std.proofs.lemmas.Result.{on_ok_weaker}
use Rattle.pd_why.proofs.offer.push_supply.Goals as goal

pub returns : goal.returns
returns c = on_ok_weaker c.push_pieces.result (λ h. rw c.bound_names.ensures at h) c.push_pieces.ensures
