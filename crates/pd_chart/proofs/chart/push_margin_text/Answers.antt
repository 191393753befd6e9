use Rattle.std.proofs.Common.{◌≡◌, ◌++◌, ◌∙◌, List, ℕ, ap, append_assoc, codes}
use Rattle.std.proofs.lemmas.Result.{on_ok_weaker}
use Rattle.pd_chart.specs.Amounts.{number_in}
use Rattle.pd_chart.specs.declared.amounts.Prefix.TheVariants.{Whole}
use Rattle.pd_chart.specs.Chart.{margin_text}
use Rattle.pd_chart.proofs.chart.push_margin_text.Goals as goal

joined : (t t1 t2 t3 t4 w s : List ℕ) → t1 ≡ t ++ codes "least margin in this window: " → t2 ≡ t1 ++ w → t3 ≡ t2 ++ codes " W at " →
    t4 ≡ t3 ++ s → t4 ≡ t ++ (codes "least margin in this window: " ++ (w ++ (codes " W at " ++ s)))
joined t t1 t2 t3 t4 w s h1 h2 h3 h4 = rw (h4, h3, h2, h1) (simp append_assoc)

pub returns : goal.returns
unfolding margin_text
returns c =
    on_ok_weaker c.push_time.result
    (λ h. joined _ _ _ _ _ _ _ c.in_ok-extend_from_slice.ensures.items
    (c.in_ok-push_number_in.ensures ∙ ap (λ n. c.extend_from_slice.new.self.items ++ number_in Whole n) c.margin.ensures)
    c.in_ok-extend_from_slice-2.ensures.items h)
    c.push_time.ensures
