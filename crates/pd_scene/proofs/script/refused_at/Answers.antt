use Rattle.std.proofs.Common.{◌≡◌, ◌∙◌, ap}
use Rattle.std.proofs.lemmas.Result.{IfOk-weaker}
use Rattle.pd_text.specs.Fronts.{front_with, refusal_pieces}
use Rattle.pd_scene.specs.Script.{refused_at}
use Rattle.pd_scene.proofs.script.refused_at.Goals as goal

pub returns : goal.returns
unfolding refused_at
returns c =
    IfOk-weaker c.refused.result (λ front. front ≡ front_with c.args.at.now (refusal_pieces c.number.result))
    (λ front. front ≡ refused_at c.args.at.now c.args.fault)
    (λ front h. h ∙ ap (λ n. front_with c.args.at.now (refusal_pieces n)) c.number.ensures)
    c.refused.ensures
