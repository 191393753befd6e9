use Rattle.std.proofs.Common.{◌≡◌, ◌++◌, ◌∷◌, List, ℕ, [], append_assoc, codes}
use Rattle.pd_chart.specs.Elements.{inside_text}
use Rattle.pd_chart.specs.Shapes.{style_of}
use Rattle.pd_chart.proofs.shapes.push_style.Goals as goal

joined : (t t1 t2 t3 r : List ℕ) → t1 ≡ t ++ codes "<style>" → t2 ≡ t1 ++ r → t3 ≡ t2 ++ codes "</style>\n" →
    t3 ≡ t ++ (codes "<style>" ++ ((r ++ []) ++ codes "</style>\n"))
joined t t1 t2 t3 r h1 h2 h3 = rw (h3, h2, h1) (simp append_assoc)

pub returns : goal.returns
unfolding style_of inside_text
returns c =
    joined _ _ _ _ _ c.in_ok-extend_from_slice.ensures.items c.in_ok-push_escaped.ensures
    c.in_ok-extend_from_slice-2.ensures.items
