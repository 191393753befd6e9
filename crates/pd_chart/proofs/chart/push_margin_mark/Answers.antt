use Rattle.std.proofs.Common.{◌≡◌, ◌++◌, ◌∙◌, List, ℕ, ap, codes}
use Rattle.std.proofs.lemmas.Result.{on_ok_weaker}
use Rattle.pd_chart.specs.Elements.{element_text}
use Rattle.pd_chart.specs.Chart.{line_of, margin_mark}
use Rattle.pd_chart.specs.Scale.{x_of, y_of}
use Rattle.pd_chart.proofs.chart.push_margin_mark.Goals as goal

lined : (f : ℕ → ℕ → ℕ → List ℕ) (t t1 : List ℕ) (x xx y yy z zz : ℕ) → x ≡ xx → y ≡ yy → z ≡ zz → t1 ≡ t ++ f x y z → t1 ≡ t ++ f xx yy zz
lined f t t1 x xx y yy z zz e g h i = rw (i, e, g, h)

pub returns : goal.returns
unfolding margin_mark
returns c =
    on_ok_weaker c.push_line.result
    (λ h. lined (λ x y z. element_text (line_of (codes "least") x y x z (codes "least margin"))) _ _ _ _ _ _ _ _
    (c.x_of-x.ensures.value ∙ ap (x_of c.args.frame) c.from.ensures)
    (c.y_of-low.ensures.value ∙ ap (y_of c.args.top) c.taken.ensures) (c.y_of-high.ensures.value ∙ ap (y_of c.args.top) c.from-2.ensures) h)
    c.push_line.ensures
