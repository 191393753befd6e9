use Rattle.std.proofs.Common.{◌≡◌, ◌++◌, ◌∷◌, List, ℕ, [], append_assoc, codes}
use Rattle.std.proofs.lemmas.Result.{on_ok_weaker}
use Rattle.pd_chart.specs.Shapes.{path_of}
use Rattle.pd_chart.proofs.shapes.push_path.Goals as goal

joined : (n t t1 t2 t3 t4 c d i k : List ℕ) → t1 ≡ t ++ 60 ∷ (n ++ c) → t2 ≡ t1 ++ d → t3 ≡ t2 ++ 62 ∷ i → t4 ≡ t3 ++ k →
    t4 ≡ t ++ 60 ∷ (n ++ ((c ++ (d ++ [])) ++ 62 ∷ (i ++ k)))
joined n t t1 t2 t3 t4 c d i k h1 h2 h3 h4 = rw (h4, h3, h2, h1) (simp append_assoc)

pub returns : goal.returns
unfolding path_of
returns c =
    on_ok_weaker c.push_close.result
    (λ h. joined (codes "path") _ _ _ _ _ _ _ _ _ c.in_ok-push_open.ensures c.in_ok-push_attribute.ensures c.in_ok-push_title.ensures h)
    c.push_close.ensures
