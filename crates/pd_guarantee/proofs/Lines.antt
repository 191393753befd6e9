-- Texts for one number after the other.
use Rattle.std.proofs.Common.{◌≡◌, ℕ, zero, suc, ◌+◌, List, [], ◌∷◌, ◌++◌, sym, ap, ◌∙◌, arith}
use Rattle.std.proofs.Common.{append_assoc}
use Rattle.std.specs.List.{flat_map, range_with_len}
use Rattle.std.proofs.lemmas.List.{append-nil}
use Rattle.std.proofs.lemmas.List.Concat.{flat_map-append}

range_more : (a n : ℕ) → range_with_len a (suc n) ≡ range_with_len a n ++ (a + n) ∷ []
range_more a zero = ap (λ v. v ∷ []) (let e : a ≡ a + 0 = omega arith in e)
range_more a (suc n) =
    let next : (a + 1) + n ≡ a + suc n = omega arith in
    ap (λ l. a ∷ l) (range_more (a + 1) n ∙ ap (λ k. range_with_len (a + 1) n ++ k ∷ []) next)

pub lines_more : (f : ℕ → List ℕ) (n : ℕ) → flat_map f (range_with_len 0 (n + 1)) ≡ flat_map f (range_with_len 0 n) ++ f n
lines_more f n =
    let next : n + 1 ≡ suc n = omega arith in
    let same : 0 + n ≡ n = omega arith in
    ap (λ k. flat_map f (range_with_len 0 k)) next
    ∙ ap (flat_map f) (range_more 0 n ∙ ap (λ k. range_with_len 0 n ++ k ∷ []) same)
    ∙ flat_map-append f (range_with_len 0 n) (n ∷ [])
    ∙ ap (λ v. flat_map f (range_with_len 0 n) ++ v) (append-nil (f n))

-- and written
pub written_more : (f : ℕ → List ℕ) (n : ℕ) (start before after : List ℕ) → before ≡ start ++ flat_map f (range_with_len 0 n)
    → after ≡ before ++ f n → after ≡ start ++ flat_map f (range_with_len 0 (n + 1))
written_more f n start before after e h =
    h ∙ ap (λ l. l ++ f n) e ∙ append_assoc start (flat_map f (range_with_len 0 n)) (f n)
    ∙ ap (λ l. start ++ l) (sym (lines_more f n))
