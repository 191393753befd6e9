use Rattle.std.proofs.lemmas.Result.{on_ok_weaker}
use Rattle.pd_text.proofs.TextLemmas.{written_in_turn}
use Rattle.pd_why.proofs.idle.push_no_offer.Goals as goal

pub returns : goal.returns
returns c =
    on_ok_weaker c.push_idle.result (λ h. written_in_turn c.args.form _ _ _ _ _ (rw c.to_piece.ensures at c.in_ok-push_pieces.ensures) h)
    c.push_idle.ensures
