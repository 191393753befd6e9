use Rattle.std.proofs.Common.{◌≡◌, ◌++◌, List, ℕ, append_assoc, codes}
use Rattle.pd_draw.proofs.picture.push_translate.Goals as goal

joined : (t t1 t2 t3 a d z : List ℕ) → t1 ≡ t ++ a → t2 ≡ t1 ++ d → t3 ≡ t2 ++ z → t3 ≡ t ++ (a ++ (d ++ z))
joined t t1 t2 t3 a d z h1 h2 h3 = rw (h3, h2, h1) (simp append_assoc)

pub returns : goal.returns
returns c =
    joined _ _ _ _ (codes "translate(0 ") _ (codes ")") c.in_ok-extend_from_slice.ensures.items c.in_ok-push_number.ensures
    c.in_ok-extend_from_slice-2.ensures.items
