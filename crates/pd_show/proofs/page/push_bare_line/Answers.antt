use Rattle.std.proofs.Common.{◌≡◌, ◌++◌, ◌∷◌, List, ℕ, [], append_assoc, codes}
use Rattle.pd_show.specs.Pages.{bare_line}
use Rattle.pd_show.proofs.page.push_bare_line.Goals as goal

joined : (t t1 t2 t3 t4 t5 t6 t7 a m d w : List ℕ) → t1 ≡ t ++ a → t2 ≡ t1 ++ 32 ∷ [] → t3 ≡ t2 ++ m → t4 ≡ t3 ++ codes " port " →
    t5 ≡ t4 ++ d → t6 ≡ t5 ++ 32 ∷ [] → t7 ≡ t6 ++ w → t7 ≡ t ++ (a ++ (32 ∷ (m ++ (codes " port " ++ (d ++ (32 ∷ w))))))
joined t t1 t2 t3 t4 t5 t6 t7 a m d w h1 h2 h3 h4 h5 h6 h7 = rw (h7, h6, h5, h4, h3, h2, h1) (simp append_assoc)

pub returns : goal.returns
unfolding bare_line
returns c =
    joined _ _ _ _ _ _ _ _ _ _ _ _ c.in_ok-push_right.ensures c.in_ok-push.ensures.items
    c.in_ok-push_more.ensures
    c.in_ok-extend_from_slice.ensures.items c.in_ok-push_number.ensures c.in_ok-push-2.ensures.items
    c.in_ok-extend_from_slice-2.ensures.items
