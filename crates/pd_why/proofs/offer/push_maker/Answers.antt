use Rattle.std.proofs.lemmas.Result.{on_ok_weaker}
use Rattle.pd_why.proofs.offer.push_maker.Goals as goal

pub returns-in-Offer : goal.returns-in-Offer
returns-in-Offer c = on_ok_weaker c.push_pieces-in-Offer.result (λ h. rw c.in-Offer.is h) c.push_pieces-in-Offer.ensures
