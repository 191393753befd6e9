use Rattle.std.proofs.Common.{◌≡◌, ◌++◌, ◌∙◌, List, ℕ, ap, append_assoc}
use Rattle.std.proofs.lemmas.Result.{on_ok_weaker}
use Rattle.pd_chart.specs.Elements.{element_text}
use Rattle.pd_chart.specs.Shapes.{style_of}
use Rattle.pd_chart.proofs.PictureLemmas.{elements_text}
use Rattle.pd_chart.proofs.picture.push_chart.Goals as goal

joined : (t t1 t2 t3 t4 a k b d w : List ℕ) → t1 ≡ t ++ a → t2 ≡ t1 ++ k → t3 ≡ t2 ++ b → t4 ≡ t3 ++ d → w ≡ a ++ (k ++ (b ++ d))
    → t4 ≡ t ++ w
joined t t1 t2 t3 t4 a k b d w h1 h2 h3 h4 e = rw (h4, h3, h2, h1, e) (simp append_assoc)

pub returns : goal.returns
returns c =
    on_ok_weaker c.push_curves.result
    (λ h. joined _ _ _ _ _ _ _ _ _ _
    (c.in_ok-push_style.ensures ∙ ap (λ r. c.args.text.now.items ++ element_text (style_of r)) c.rules.ensures)
    c.in_ok-push_all_keys.ensures c.in_ok-push_axes.ensures h
    (elements_text c.args.frame c.args.bottom c.args.ports c.args.holds c.args.levels.now))
    c.push_curves.ensures
