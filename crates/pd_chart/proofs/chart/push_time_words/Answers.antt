use Rattle.std.proofs.Common.{rules, ◌≡◌, ◌++◌, ◌∙◌, List, ℕ, [], ap, codes}
use Rattle.std.proofs.lemmas.Result.{on_ok_weaker}
use Rattle.pd_chart.specs.Elements.{element_text}
use Rattle.pd_chart.specs.Shapes.{words_at}
use Rattle.pd_chart.specs.Chart.{time_number, time_words}
use Rattle.pd_chart.proofs.chart.push_time_words.Goals as goal

spoken : (f : ℕ → List ℕ → List ℕ) (t t1 : List ℕ) (x xx : ℕ) (w ww : List ℕ) → x ≡ xx → w ≡ ww → t1 ≡ t ++ f x w → t1 ≡ t ++ f xx ww
spoken f t t1 x xx w ww e h g = rw (g, e, h)

pub returns : goal.returns
unfolding time_words
returns c =
    let none : c.new-words.result.items ≡ [] = search rules in
    on_ok_weaker c.push_words.result
    (λ h. spoken (λ x w. element_text (words_at (codes "tick middle") x 3680 w)) _ _ _ _ _ _ c.x_of.ensures.value
    (c.as_slice.ensures.value ∙ c.in_ok-push_time_number.ensures ∙ ap (λ v. v ++ time_number c.args.frame c.args.at) none) h)
    c.push_words.ensures
