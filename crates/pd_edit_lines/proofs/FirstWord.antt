-- The first word of a line.
use Rattle.std.proofs.Common.{◌≡◌, ℕ, zero, suc, ◌<◌, ◌≤◌, true, false, ◌==◌, List, [], ◌∷◌, length, get_or, take, drop, sym, arith}
use Rattle.std.proofs.lemmas.Bool.Decides.{nat_tests}
use Rattle.std.proofs.lemmas.Bool.{false≢true, and_parts}
use Rattle.std.proofs.lemmas.Str.{IsUtf8-from_ascii}
use Rattle.std.specs.Prelude.{IsUtf8}
use Rattle.std.specs.List.{list_all}
use Rattle.std.specs.Char.{is_ascii_alphanumeric}
use Rattle.pd_scenario.specs.Names.{is_name}
use Rattle.pd_edit_lines.specs.Words.{words}

other : (c : ℕ) → (c ≡ 32 → ⊥) → (c == 32) ≡ false
other c h = grind (arith, nat_tests)

same_as : (d : ℕ) → d ≡ 32 → (d == 32) ≡ true
same_as d h = grind (arith, nat_tests)

in_ascii : (c : ℕ) → is_ascii_alphanumeric c ≡ true → c < 128
in_ascii c h = grind (arith, nat_tests)

ascii : (w : List ℕ) → list_all is_ascii_alphanumeric w ≡ true → (i : ℕ) → get_or w i 0 < 128
ascii [] h i = omega arith
ascii (c ∷ cs) h zero = in_ascii c ((and_parts _ _ h).0)
ascii (c ∷ cs) h (suc i) = ascii cs ((and_parts _ _ h).1) i

-- a name is text
pub name_text : (w : List ℕ) → is_name w ≡ true → IsUtf8 w
name_text w h = IsUtf8-from_ascii w (ascii w ((and_parts _ _ h).1))

pub positive : (n : ℕ) (s : List ℕ) → (n < length s → get_or s n 0 ≡ 32) → (get_or s 0 0 ≡ 32 → ⊥) → (length s == 0) ≡ false → 0 < n
positive zero [] found front some = absurd (false≢true (sym some))
positive zero (c ∷ cs) found front some = absurd (front (found (omega arith)))
positive (suc n) s found front some = omega arith

pub words-first : (bs : List ℕ) (n : ℕ) → n ≤ length bs → ((k : ℕ) → k < n → get_or bs k 0 ≡ 32 → ⊥) → (n < length bs → get_or bs n 0 ≡ 32)
    → 0 < n
    → words bs ≡ take n bs ∷ words (drop n bs)
words-first bs zero within before found some = absurd (omega arith)
words-first [] (suc n) within before found some = absurd (omega arith)
words-first (c ∷ []) (suc zero) within before found some = rw (other c (before 0 some))
words-first (c ∷ []) (suc (suc n)) within before found some = absurd (omega arith)
words-first (c ∷ d ∷ ds) (suc zero) within before found some =
    let here : d ≡ 32 = found (omega arith) in rw (other c (before 0 some), same_as d here)
words-first (c ∷ d ∷ ds) (suc (suc n)) within before found some =
    let rest = words-first (d ∷ ds) (suc n) (omega arith) (λ k h. before (suc k) (omega arith)) (λ h. found (omega arith)) (omega arith) in
    let inner = other d (before 1 (omega arith)) in
    rw (other c (before 0 some), inner, rw inner at rest)
