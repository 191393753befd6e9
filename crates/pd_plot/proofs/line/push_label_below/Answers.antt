use Rattle.std.proofs.Common.{◌≡◌, ◌++◌, List, ℕ, codes}
use Rattle.std.proofs.lemmas.Result.{on_ok_weaker}
use Rattle.pd_chart.specs.Elements.{element_text}
use Rattle.pd_chart.specs.Shapes.{words_at}
use Rattle.pd_plot.specs.Lines.{label_below}
use Rattle.pd_plot.proofs.line.push_label_below.Goals as goal

spoken : (f : List ℕ → List ℕ) (t t1 w ww : List ℕ) → w ≡ ww → t1 ≡ t ++ f w → t1 ≡ t ++ f ww
spoken f t t1 w ww h g = rw (g, h)

pub returns : goal.returns
unfolding label_below
returns c =
    on_ok_weaker c.push_words.result
    (λ h. spoken (λ w. element_text (words_at (codes "tick middle") c.args.label.now.at c.args.y w)) _ _ _ _ c.as_slice.ensures.value h)
    c.push_words.ensures
