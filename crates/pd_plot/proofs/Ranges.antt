-- One more number of a range.
use Rattle.std.proofs.Common.{◌≡◌, ℕ, zero, suc, ◌+◌, List, [], ◌∷◌, ◌++◌, map, sym, ap, ◌∙◌, arith, refl}
use Rattle.std.specs.List.{range_with_len}
use Rattle.std.proofs.lemmas.List.FromFn.{map-range_with_len_more}

range_next : (a n : ℕ) → range_with_len a (suc n) ≡ range_with_len a n ++ (a + n) ∷ []
range_next a zero = ap (λ v. v ∷ []) (let e : a ≡ a + 0 = omega arith in e)
range_next a (suc n) =
    let next : (a + 1) + n ≡ a + suc n = omega arith in
    ap (λ l. a ∷ l) (range_next (a + 1) n ∙ ap (λ k. range_with_len (a + 1) n ++ k ∷ []) next)

pub range_more : (n : ℕ) → range_with_len 0 (n + 1) ≡ range_with_len 0 n ++ n ∷ []
range_more n =
    let up : n + 1 ≡ suc n = omega arith in
    let at : 0 + n ≡ n = omega arith in
    ap (range_with_len 0) up ∙ range_next 0 n ∙ ap (λ k. range_with_len 0 n ++ k ∷ []) at

pub mapped_more : {X : Type 0} (f : ℕ → X) (n : ℕ) (x : X) (before after : List X) → before ≡ map f (range_with_len 0 n) → x ≡ f n
    → after ≡ before ++ x ∷ [] → after ≡ map f (range_with_len 0 (n + 1))
mapped_more f n x before after h at more =
    let here : 0 + n ≡ n = omega arith in
    more ∙ ap (λ l. l ++ x ∷ []) h ∙ ap (λ y. map f (range_with_len 0 n) ++ y ∷ []) at ∙ sym (map-range_with_len_more f 0 n n here)
