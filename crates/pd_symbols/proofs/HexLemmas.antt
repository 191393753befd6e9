-- Laws of hexadecimal digits.
use Rattle.std.proofs.Common.{◌≡◌, ℕ, zero, suc, ◌+◌, ◌-◌, ◌*◌, ◌/◌, ◌%◌, ◌^◌, ◌<◌, List, [], ◌∷◌, ◌++◌, map, reverse, length, drop}
use Rattle.std.proofs.Common.{refl, sym, ap, ◌∙◌, arith, pow-suc}
use Rattle.std.specs.Prelude.{slice_set}
use Rattle.std.proofs.lemmas.Grind.{drop-set_at}
use Rattle.std.proofs.lemmas.List.{reverse-append}
use Rattle.std.proofs.Math.Nat.{div-div-eq-div-mul}
use Rattle.pd_symbols.specs.Words.{nibbles}
use Rattle.pd_symbols.specs.Hex.{hex_digit, hex_digits}

shift_once : (k n : ℕ) → n / 16 / 16 ^ k ≡ n / 16 ^ suc k
shift_once k n = let e : 16 * 16 ^ k ≡ 16 ^ suc k = omega (arith, pow-suc 16 k) in
    div-div-eq-div-mul n 16 (16 ^ k) ∙ ap (λ (m : ℕ). n / m) e

nibbles-push : (k n : ℕ) → nibbles (suc k) n ≡ nibbles k n ++ n / 16 ^ k % 16 ∷ []
unfolding nibbles
nibbles-push zero n = let whole : n ≡ n / 1 = omega arith in ap (λ (m : ℕ). m % 16 ∷ []) whole
nibbles-push (suc k) n =
    ap (λ (ds : List ℕ). n % 16 ∷ ds) (nibbles-push k (n / 16))
    ∙ ap (λ (m : ℕ). n % 16 ∷ (nibbles k (n / 16) ++ m % 16 ∷ [])) (shift_once k n)

-- one digit more
pub hex_digits-suc : (k n : ℕ) → hex_digits (suc k) n ≡ hex_digit (n / 16 ^ k % 16) ∷ hex_digits k n
unfolding hex_digits
hex_digits-suc k n =
    ap (λ (ds : List ℕ). map hex_digit (reverse ds)) (nibbles-push k n)
    ∙ ap (map hex_digit) (reverse-append (nibbles k n) (n / 16 ^ k % 16 ∷ []))

pub hex_digits-none : (n : ℕ) → hex_digits 0 n ≡ []
unfolding hex_digits nibbles
hex_digits-none n = refl

-- The lowest digits stand last, and the next one goes before them.
pub put_before : (xs ds : List ℕ) (k i d : ℕ) → length xs ≡ k → i < k → drop (k - i) xs ≡ ds
    → drop (k - (i + 1)) (slice_set xs (k - 1 - i) d) ≡ d ∷ ds
put_before xs ds k i d long lt low =
    let next : k - 1 - i + 1 ≡ k - i = omega arith in
    drop-set_at xs (k - 1 - i) (k - (i + 1)) d (omega arith) (omega arith)
    ∙ ap (λ (m : ℕ). d ∷ drop m xs) next ∙ ap (λ (es : List ℕ). d ∷ es) low

pub hex_digits-more : (i n rest : ℕ) → rest ≡ n / 16 ^ i → hex_digit (rest % 16) ∷ hex_digits i n ≡ hex_digits (i + 1) n
hex_digits-more i n rest e =
    let next : suc i ≡ i + 1 = omega arith in
    ap (λ (m : ℕ). hex_digit (m % 16) ∷ hex_digits i n) e ∙ sym (hex_digits-suc i n) ∙ ap (λ (m : ℕ). hex_digits m n) next

pub shift_more : (i n rest : ℕ) → rest ≡ n / 16 ^ i → rest / 16 ≡ n / 16 ^ (i + 1)
shift_more i n rest e =
    let next : 16 ^ i * 16 ≡ 16 ^ (i + 1) = let s : suc i ≡ i + 1 = omega arith in sym (pow-suc 16 i) ∙ ap (λ (m : ℕ). 16 ^ m) s in
    ap (λ (m : ℕ). m / 16) e ∙ div-div-eq-div-mul n (16 ^ i) 16 ∙ ap (λ (m : ℕ). n / m) next
