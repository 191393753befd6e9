-- Texts that are written piece by piece.
use Rattle.std.proofs.Common.{◌≡◌, ℕ, List, ◌++◌, ap, ◌∙◌, append_assoc}

pub joined_two : (t t1 t2 a b : List ℕ) → t1 ≡ t ++ a → t2 ≡ t1 ++ b → t2 ≡ t ++ (a ++ b)
joined_two t t1 t2 a b h1 h2 = h2 ∙ ap (λ x. x ++ b) h1 ∙ append_assoc t a b

pub joined_three : (t t1 t2 t3 a b c : List ℕ)
    → t1 ≡ t ++ a → t2 ≡ t1 ++ b → t3 ≡ t2 ++ c
    → t3 ≡ t ++ (a ++ (b ++ c))
joined_three t t1 t2 t3 a b c h1 h2 h3 =
    joined_two t t1 t3 a (b ++ c) h1
    (joined_two t1 t2 t3 b c h2 h3)

pub joined_four : (t t1 t2 t3 t4 a b c d : List ℕ)
    → t1 ≡ t ++ a → t2 ≡ t1 ++ b → t3 ≡ t2 ++ c → t4 ≡ t3 ++ d
    → t4 ≡ t ++ (a ++ (b ++ (c ++ d)))
joined_four t t1 t2 t3 t4 a b c d h1 h2 h3 h4 =
    joined_two t t1 t4 a (b ++ (c ++ d)) h1
    (joined_three t1 t2 t3 t4 b c d h2 h3 h4)

pub joined_five : (t t1 t2 t3 t4 t5 a b c d e : List ℕ)
    → t1 ≡ t ++ a → t2 ≡ t1 ++ b → t3 ≡ t2 ++ c → t4 ≡ t3 ++ d
    → t5 ≡ t4 ++ e
    → t5 ≡ t ++ (a ++ (b ++ (c ++ (d ++ e))))
joined_five t t1 t2 t3 t4 t5 a b c d e h1 h2 h3 h4 h5 =
    joined_two t t1 t5 a (b ++ (c ++ (d ++ e))) h1
    (joined_four t1 t2 t3 t4 t5 b c d e h2 h3 h4 h5)

pub joined_six : (t t1 t2 t3 t4 t5 t6 a b c d e f : List ℕ)
    → t1 ≡ t ++ a → t2 ≡ t1 ++ b → t3 ≡ t2 ++ c → t4 ≡ t3 ++ d
    → t5 ≡ t4 ++ e → t6 ≡ t5 ++ f
    → t6 ≡ t ++ (a ++ (b ++ (c ++ (d ++ (e ++ f)))))
joined_six t t1 t2 t3 t4 t5 t6 a b c d e f h1 h2 h3 h4 h5 h6 =
    joined_two t t1 t6 a (b ++ (c ++ (d ++ (e ++ f)))) h1
    (joined_five t1 t2 t3 t4 t5 t6 b c d e f h2 h3 h4 h5 h6)

pub joined_seven : (t t1 t2 t3 t4 t5 t6 t7 a b c d e f g : List ℕ)
    → t1 ≡ t ++ a → t2 ≡ t1 ++ b → t3 ≡ t2 ++ c → t4 ≡ t3 ++ d
    → t5 ≡ t4 ++ e → t6 ≡ t5 ++ f → t7 ≡ t6 ++ g
    → t7 ≡ t ++ (a ++ (b ++ (c ++ (d ++ (e ++ (f ++ g))))))
joined_seven t t1 t2 t3 t4 t5 t6 t7 a b c d e f g h1 h2 h3 h4 h5 h6 h7 =
    joined_two t t1 t7 a (b ++ (c ++ (d ++ (e ++ (f ++ g))))) h1
    (joined_six t1 t2 t3 t4 t5 t6 t7 b c d e f g h2 h3 h4 h5 h6 h7)

pub joined_eight : (t t1 t2 t3 t4 t5 t6 t7 t8 a b c d e f g h : List ℕ)
    → t1 ≡ t ++ a → t2 ≡ t1 ++ b → t3 ≡ t2 ++ c → t4 ≡ t3 ++ d
    → t5 ≡ t4 ++ e → t6 ≡ t5 ++ f → t7 ≡ t6 ++ g → t8 ≡ t7 ++ h
    → t8 ≡ t ++ (a ++ (b ++ (c ++ (d ++ (e ++ (f ++ (g ++ h)))))))
joined_eight t t1 t2 t3 t4 t5 t6 t7 t8 a b c d e f g h h1 h2 h3 h4 h5 h6 h7 h8 =
    joined_two t t1 t8 a (b ++ (c ++ (d ++ (e ++ (f ++ (g ++ h)))))) h1
    (joined_seven t1 t2 t3 t4 t5 t6 t7 t8 b c d e f g h h2 h3 h4 h5 h6 h7 h8)
