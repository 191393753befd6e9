-- What reaches further on a length.
use Rattle.std.proofs.Common.{◌≡◌, ℕ, ◌+◌, ◌-◌, ◌*◌, ◌/◌, ◌<◌, ◌≤◌, min, max, arith}
use Rattle.std.proofs.Math.Nat.{div-mul-le_self, le-min, min-le_left, min-le_right}
use Rattle.std.proofs.lemmas.Nat.{le-div}
use Rattle.pd_chart.specs.Scale.{scaled}

further : (x y z : ℕ) → x ≤ y → y ≤ z → x ≤ z
further x y z h k = omega (arith, h, k)

times : (a b k : ℕ) → a ≤ b → a * k ≤ b * k
times a b k h = grind (arith, h)

-- a greater number, divided by the same
pub div_more : (a b k : ℕ) → 0 < k → a ≤ b → a / k ≤ b / k
div_more a b k some h = le-div (a / k) b k some (further (a / k * k) a b (div-mul-le_self a k) h)

-- a greater part of a whole never reaches less far
pub scaled_more : (a b whole length : ℕ) → a ≤ b → scaled a whole length ≤ scaled b whole length
scaled_more a b whole length h =
    let some : 0 < max 1 whole = omega arith in
    let least = min (a * length / max 1 whole) length in
    le-min
    (further least (a * length / max 1 whole) (b * length / max 1 whole) (min-le_left (a * length / max 1 whole) length)
    (div_more (a * length) (b * length) (max 1 whole) some (times a b length h)))
    (min-le_right (a * length / max 1 whole) length)

pub less_left : (a b k : ℕ) → a ≤ b → a - k ≤ b - k
less_left a b k h = omega (arith, h)
