-- Texts that are written part by part.
use Rattle.std.proofs.Common.{◌≡◌, ℕ, List, ◌++◌, append_assoc}

pub joined_two : (t t1 t2 a b : List ℕ) → t1 ≡ t ++ a → t2 ≡ t1 ++ b → t2 ≡ t ++ (a ++ b)
joined_two t t1 t2 a b h1 h2 = rw (h2, h1) (simp append_assoc)
