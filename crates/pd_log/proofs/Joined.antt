-- Texts that are written one after the other stand joined.
use Rattle.std.proofs.Common.{◌≡◌, ◌++◌, List, ℕ, append_assoc}

pub two : (t a b t1 t2 : List ℕ) → t1 ≡ t ++ a → t2 ≡ t1 ++ b → t2 ≡ t ++ (a ++ b)
two t a b t1 t2 e f = rw (f, e) (simp append_assoc)

pub five : (t a b c d e t1 t2 t3 t4 t5 : List ℕ) → t1 ≡ t ++ a → t2 ≡ t1 ++ b → t3 ≡ t2 ++ c → t4 ≡ t3 ++ d → t5 ≡ t4 ++ e
    → t5 ≡ t ++ (a ++ (b ++ (c ++ (d ++ e))))
five t a b c d e t1 t2 t3 t4 t5 f g h i j = rw (j, i, h, g, f) (simp append_assoc)

pub three : (t a b c t1 t2 t3 : List ℕ) → t1 ≡ t ++ a → t2 ≡ t1 ++ b → t3 ≡ t2 ++ c → t3 ≡ t ++ (a ++ (b ++ c))
three t a b c t1 t2 t3 f g h = rw (h, g, f) (simp append_assoc)
