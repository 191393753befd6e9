use Rattle.std.proofs.Common.{◌≡◌, ◌++◌, ◌∷◌, List, ℕ, [], append_assoc, codes}
use Rattle.pd_chart.specs.Elements.{inside_text}
use Rattle.std.proofs.lemmas.Result.{on_ok_weaker}
use Rattle.pd_chart.specs.Shapes.{words_at}
use Rattle.pd_chart.proofs.shapes.push_words.Goals as goal

joined : (n t t1 t2 t3 t4 t5 c x y i k : List ℕ) → t1 ≡ t ++ 60 ∷ (n ++ c) → t2 ≡ t1 ++ (x ++ (y ++ [])) → t3 ≡ t2 ++ 62 ∷ [] →
    t4 ≡ t3 ++ i → t5 ≡ t4 ++ k → t5 ≡ t ++ 60 ∷ (n ++ ((c ++ (x ++ (y ++ []))) ++ 62 ∷ ((i ++ []) ++ k)))
joined n t t1 t2 t3 t4 t5 c x y i k h1 h2 h3 h4 h5 = rw (h5, h4, h3, h2, h1) (simp append_assoc)

pub returns : goal.returns
unfolding words_at inside_text
returns c =
    on_ok_weaker c.push_close.result
    (λ h. joined (codes "text") _ _ _ _ _ _ _ _ _ _ _ c.in_ok-push_open.ensures c.in_ok-push_place.ensures c.in_ok-push.ensures.items
    c.in_ok-push_escaped.ensures h)
    c.push_close.ensures
