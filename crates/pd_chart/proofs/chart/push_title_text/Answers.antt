use Rattle.std.proofs.Common.{◌≡◌, ◌++◌, List, ℕ, append_assoc, codes}
use Rattle.std.proofs.lemmas.Result.{on_ok_weaker}
use Rattle.pd_chart.specs.Chart.{window_text}
use Rattle.pd_chart.proofs.chart.push_title_text.Goals as goal

joined : (t t1 t2 a w : List ℕ) → t1 ≡ t ++ a → t2 ≡ t1 ++ w → t2 ≡ t ++ (a ++ w)
joined t t1 t2 a w h1 h2 = rw (h2, h1) (simp append_assoc)

pub returns : goal.returns
returns c =
    on_ok_weaker c.push_window_text.result
    (λ h. joined c.args.text.now.items _ _ (codes "Shared budget and contracts, ") (window_text c.args.frame)
    c.in_ok-extend_from_slice.ensures.items h)
    c.push_window_text.ensures
