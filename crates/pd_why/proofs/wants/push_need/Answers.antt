use Rattle.std.proofs.lemmas.Result.{on_ok_weaker}
use Rattle.pd_text.proofs.TextLemmas.{written_in_turn}
use Rattle.pd_why.proofs.wants.push_need.Goals as goal

pub returns : goal.returns
returns c =
    on_ok_weaker c.push_needed.result (λ h. written_in_turn c.args.form _ _ _ _ _ c.in_ok-push_pieces.ensures h)
    c.push_needed.ensures
