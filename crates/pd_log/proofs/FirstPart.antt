-- The first part of a line.
use Rattle.std.proofs.Common.{◌≡◌, ◌∙◌, ℕ, zero, suc, ◌<◌, ◌≤◌, true, false, ◌==◌, List, [], ◌∷◌, length, get_or, take, drop, sym, arith}
use Rattle.std.proofs.lemmas.Bool.Decides.{nat_tests}
use Rattle.std.proofs.lemmas.Bool.{false≢true}
use Rattle.pd_log.specs.Parts.{is_gap, parts}

pub some : (s : List ℕ) → (length s == 0) ≡ false → 0 < length s
some s h = grind (arith, nat_tests)

pub positive : (n : ℕ) (s : List ℕ) → (n < length s → is_gap (get_or s n 0) ≡ true) → is_gap (get_or s 0 0) ≡ false → 0 < length s → 0 < n
positive zero s found front long = absurd (false≢true (sym front ∙ found long))
positive (suc n) s found front long = omega arith

pub parts-first : (bs : List ℕ) (n : ℕ) → n ≤ length bs → ((k : ℕ) → k < n → is_gap (get_or bs k 0) ≡ false)
    → (n < length bs → is_gap (get_or bs n 0) ≡ true)
    → 0 < n
    → parts bs ≡ take n bs ∷ parts (drop n bs)
parts-first bs zero within before found some = absurd (omega arith)
parts-first [] (suc n) within before found some = absurd (omega arith)
parts-first (c ∷ []) (suc zero) within before found some = rw (before 0 some)
parts-first (c ∷ []) (suc (suc n)) within before found some = absurd (omega arith)
parts-first (c ∷ d ∷ ds) (suc zero) within before found some =
    let here : is_gap d ≡ true = found (omega arith) in rw (before 0 some, here)
parts-first (c ∷ d ∷ ds) (suc (suc n)) within before found some =
    let rest = parts-first (d ∷ ds) (suc n) (omega arith) (λ k h. before (suc k) (omega arith)) (λ h. found (omega arith)) (omega arith) in
    let inner = before 1 (omega arith) in
    rw (before 0 some, inner, rw inner at rest)
