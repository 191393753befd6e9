-- How large a number of decimal digits is.
use Rattle.std.proofs.Common.{◌≡◌, ℕ, ◌+◌, ◌-◌, ◌*◌, ◌^◌, ◌<◌, ◌≤◌, Bool, true, false, List, [], ◌∷◌, length, fold, refl, arith}
use Rattle.std.proofs.Common.{suc, lit<, mul_assoc, mul_comm, pow-suc}
use Rattle.std.proofs.lemmas.Bool.Decides.{nat_tests}
use Rattle.std.proofs.Math.Nat.{pow-le-pow_right}
use Rattle.std.specs.Prelude.{◌&&◌, ◌==◌, not, nat_le, Some, None, IfSome, if◌then◌else◌}
use Rattle.std.specs.Char.{is_ascii_digit}
use Rattle.std.specs.List.{list_all}
use Rattle.pd_edit_lines.specs.Words.{number}

both : (a b : Bool) → a && b ≡ true → (a ≡ true) × (b ≡ true)
both true b h = (refl, h)
both false b h = absurd (cc)

-- with each digit a number that is below another stays below ten times that
below : (w : List ℕ) (n most : ℕ) → n < most → list_all is_ascii_digit w ≡ true
    → fold (λ n c. 10 * n + (c - 48)) n w < most * 10 ^ length w
below [] n most lt all = omega (arith, lt)
below (c ∷ cs) n most lt all =
    let (digit, others) = both (is_ascii_digit c) (list_all is_ascii_digit cs) all in
    let next : 10 * n + (c - 48) < 10 * most = grind (arith, nat_tests, digit, lt) in
    let rest = below cs (10 * n + (c - 48)) (10 * most) next others in
    let same : 10 * most * 10 ^ length cs ≡ most * 10 ^ suc (length cs) = grind (arith, mul_assoc, mul_comm, pow-suc) in
    rw (← same) rest

-- of ten digits at the most
pub fits : (w : List ℕ) → IfSome (number w) (λ n. n < 10 ^ 10)
fits w = by_test _ refl where
  by_test : (b : Bool) → (not (length w == 0) && nat_le (length w) 10) && list_all is_ascii_digit w ≡ b
      → IfSome (if b then Some (fold (λ n c. 10 * n + (c - 48)) 0 w) else None) (λ n. n < 10 ^ 10)
  by_test false is = tt
  by_test true is =
      let (sized, digits) = both (not (length w == 0) && nat_le (length w) 10) (list_all is_ascii_digit w) is in
      let short : length w ≤ 10 = grind (arith, nat_tests, both (not (length w == 0)) (nat_le (length w) 10) sized) in
      omega (arith, below w 0 1 (lit< tt) digits, pow-le-pow_right {n = 10} (lit< tt) short)
