-- One more name.
use Rattle.std.proofs.Common.{◌≡◌, ℕ, zero, suc, ◌+◌, List, [], ◌∷◌, ◌++◌, sym, ap, append_assoc, ◌∙◌, arith}
use Rattle.std.specs.List.{flat_map, range_with_len}
use Rattle.std.proofs.lemmas.List.{append-nil}
use Rattle.std.proofs.lemmas.List.Concat.{flat_map-append}

range_more : (a n : ℕ) → range_with_len a (suc n) ≡ range_with_len a n ++ (a + n) ∷ []
range_more a zero = ap (λ v. v ∷ []) (let e : a ≡ a + 0 = omega arith in e)
range_more a (suc n) =
    let next : (a + 1) + n ≡ a + suc n = omega arith in
    ap (λ l. a ∷ l) (range_more (a + 1) n ∙ ap (λ k. range_with_len (a + 1) n ++ k ∷ []) next)

-- what is written of numbers from 1 on
pub named_more : (f : ℕ → List ℕ) (n : ℕ) (start before after : List ℕ) → before ≡ start ++ flat_map f (range_with_len 1 n)
    → after ≡ before ++ f (n + 1) → after ≡ start ++ flat_map f (range_with_len 1 (n + 1))
named_more f n start before after e h =
    let up : n + 1 ≡ suc n = omega arith in
    let next : 1 + n ≡ n + 1 = omega arith in
    let all : flat_map f (range_with_len 1 (n + 1)) ≡ flat_map f (range_with_len 1 n) ++ f (n + 1) =
    ap (λ k. flat_map f (range_with_len 1 k)) up
    ∙ ap (flat_map f) (range_more 1 n ∙ ap (λ k. range_with_len 1 n ++ k ∷ []) next)
    ∙ flat_map-append f (range_with_len 1 n) ((n + 1) ∷ [])
    ∙ ap (λ v. flat_map f (range_with_len 1 n) ++ v) (append-nil (f (n + 1))) in
    h ∙ ap (λ l. l ++ f (n + 1)) e ∙ append_assoc start (flat_map f (range_with_len 1 n)) (f (n + 1))
    ∙ ap (λ l. start ++ l) (sym all)
