-- Texts that are written part by part.
use Rattle.std.proofs.Common.{◌≡◌, ℕ, List, ◌++◌, append_assoc}

pub joined_three : (t t1 t2 t3 a b c : List ℕ) → t1 ≡ t ++ a → t2 ≡ t1 ++ b → t3 ≡ t2 ++ c → t3 ≡ t ++ (a ++ (b ++ c))
joined_three t t1 t2 t3 a b c h1 h2 h3 = rw (h3, h2, h1) (simp append_assoc)

pub joined_four : (t t1 t2 t3 t4 a b c d : List ℕ) → t1 ≡ t ++ a → t2 ≡ t1 ++ b → t3 ≡ t2 ++ c → t4 ≡ t3 ++ d →
    t4 ≡ t ++ (a ++ (b ++ (c ++ d)))
joined_four t t1 t2 t3 t4 a b c d h1 h2 h3 h4 = rw (h4, h3, h2, h1) (simp append_assoc)

pub joined_five : (t t1 t2 t3 t4 t5 a b c d e : List ℕ) → t1 ≡ t ++ a → t2 ≡ t1 ++ b → t3 ≡ t2 ++ c → t4 ≡ t3 ++ d → t5 ≡ t4 ++ e →
    t5 ≡ t ++ (a ++ (b ++ (c ++ (d ++ e))))
joined_five t t1 t2 t3 t4 t5 a b c d e h1 h2 h3 h4 h5 = rw (h5, h4, h3, h2, h1) (simp append_assoc)

pub joined_seven : (t t1 t2 t3 t4 t5 t6 t7 a b c d e f g : List ℕ) → t1 ≡ t ++ a → t2 ≡ t1 ++ b → t3 ≡ t2 ++ c → t4 ≡ t3 ++ d →
    t5 ≡ t4 ++ e → t6 ≡ t5 ++ f → t7 ≡ t6 ++ g → t7 ≡ t ++ (a ++ (b ++ (c ++ (d ++ (e ++ (f ++ g))))))
joined_seven t t1 t2 t3 t4 t5 t6 t7 a b c d e f g h1 h2 h3 h4 h5 h6 h7 = rw (h7, h6, h5, h4, h3, h2, h1) (simp append_assoc)

pub joined_eight : (t t1 t2 t3 t4 t5 t6 t7 t8 a b c d e f g h : List ℕ) → t1 ≡ t ++ a → t2 ≡ t1 ++ b → t3 ≡ t2 ++ c → t4 ≡ t3 ++ d →
    t5 ≡ t4 ++ e → t6 ≡ t5 ++ f → t7 ≡ t6 ++ g → t8 ≡ t7 ++ h → t8 ≡ t ++ (a ++ (b ++ (c ++ (d ++ (e ++ (f ++ (g ++ h)))))))
joined_eight t t1 t2 t3 t4 t5 t6 t7 t8 a b c d e f g h h1 h2 h3 h4 h5 h6 h7 h8 =
    rw (h8, h7, h6, h5, h4, h3, h2, h1) (simp append_assoc)
