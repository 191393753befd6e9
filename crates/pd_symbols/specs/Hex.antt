-- Numbers in hexadecimal.
use Rattle.std.specs.Prelude.{ℕ, ◌+◌, ◌-◌, List, map, reverse, nat_lt, if◌then◌else◌}
use Rattle.pd_symbols.specs.Words.{nibbles}

-- the digit of a number below 16, a letter in upper case
abbrev pub hex_digit : ℕ → ℕ
hex_digit d = if nat_lt d 10 then 48 + d else 65 + (d - 10)

-- the low k digits of a number, the highest first
unfoldable pub hex_digits : ℕ → ℕ → List ℕ
hex_digits k n = map hex_digit (reverse (nibbles k n))
