-- How large a number of hexadecimal or of decimal digits is.
use Rattle.std.proofs.Common.{ℕ, ◌^◌, ◌<◌, ◌≤◌, arith, lit<}
use Rattle.std.proofs.Math.Nat.{pow-le-pow_right}

pub of_seven : (k n : ℕ) → n < 16 ^ k → k < 8 → n < 268435456
of_seven k n h lt =
    let few : k ≤ 7 = omega arith in omega (arith, pow-le-pow_right {n = 16} (lit< tt) few)

pub of_four : (k n : ℕ) → n < 16 ^ k → k ≤ 4 → n < 65536
of_four k n h le = omega (arith, pow-le-pow_right {n = 16} (lit< tt) le)

pub of_five : (k n : ℕ) → n < 10 ^ k → k < 6 → n < 100000
of_five k n h lt =
    let few : k ≤ 5 = omega arith in omega (arith, pow-le-pow_right {n = 10} (lit< tt) few)
