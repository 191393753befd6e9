use Rattle.std.proofs.Common.{◌≡◌, ℕ, List, ◌++◌, append_assoc, codes}
use Rattle.pd_hints.specs.Slips.{meant_words}
use Rattle.pd_hints.proofs.slip.push_meant_words.Goals as goal

joined : (t t1 t2 t3 a b c : List ℕ) → t1 ≡ t ++ a → t2 ≡ t1 ++ b → t3 ≡ t2 ++ c → t3 ≡ t ++ (a ++ (b ++ c))
joined t t1 t2 t3 a b c h1 h2 h3 = rw (h3, h2, h1) (simp append_assoc)

pub returns : goal.returns
unfolding meant_words
returns c =
    joined _ _ _ _ (codes "did you mean `") _ (codes "`?") c.in_ok-extend_from_slice.ensures.items c.in_ok-push_shown.ensures
    c.in_ok-extend_from_slice-2.ensures.items
