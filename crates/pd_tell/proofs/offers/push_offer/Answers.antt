use Rattle.std.proofs.Common.{◌++◌, ◌∙◌, ap, append_assoc, codes}
use Rattle.std.proofs.lemmas.Result.{on_ok_weaker}
use Rattle.pd_tell.specs.Amounts.{amperes}
use Rattle.pd_tell.proofs.offers.push_offer.Goals as goal

pub returns : goal.returns
returns c =
    on_ok_weaker c.push_amperes.result
    (λ h. h ∙ ap (λ v. v ++ amperes c.args.limit_ma) c.in_ok-extend_from_slice.ensures.items
    ∙ append_assoc c.args.text.now.items (codes "offer, cable ") (amperes c.args.limit_ma)) c.push_amperes.ensures
