use Rattle.std.proofs.Common.{◌≡◌, ◌++◌, ◌∷◌, List, ℕ, [], append_assoc}
use Rattle.std.proofs.lemmas.Result.{on_ok_weaker}
use Rattle.pd_chart.specs.Chart.{line_text}
use Rattle.pd_plot.proofs.heat.push_line_text.Goals as goal

joined : (t t1 t2 t3 t4 t5 t6 t7 a b c d : List ℕ) → t1 ≡ t ++ 77 ∷ [] → t2 ≡ t1 ++ a → t3 ≡ t2 ++ 32 ∷ [] → t4 ≡ t3 ++ b →
    t5 ≡ t4 ++ 76 ∷ [] → t6 ≡ t5 ++ c → t7 ≡ t6 ++ 32 ∷ [] → (t8 : List ℕ) → t8 ≡ t7 ++ d →
    t8 ≡ t ++ 77 ∷ (a ++ 32 ∷ (b ++ 76 ∷ (c ++ 32 ∷ d)))
joined t t1 t2 t3 t4 t5 t6 t7 a b c d h1 h2 h3 h4 h5 h6 h7 t8 h8 = rw (h8, h7, h6, h5, h4, h3, h2, h1) (simp append_assoc)

pub returns : goal.returns
unfolding line_text
returns c =
    on_ok_weaker c.push_number-4.result
    (λ h. joined _ _ _ _ _ _ _ _ _ _ _ _ c.in_ok-push.ensures.items c.in_ok-push_number.ensures c.in_ok-push-2.ensures.items
    c.in_ok-push_number-2.ensures c.in_ok-push-3.ensures.items c.in_ok-push_number-3.ensures c.in_ok-push-4.ensures.items _ h)
    c.push_number-4.ensures
