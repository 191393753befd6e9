-- How many steps were taken.
use Rattle.std.specs.Prelude.{ℕ, ◌+◌, ◌-◌, ◌^◌, min}

-- a count after so many more steps, which stays at its greatest value
abbrev pub raised : ℕ → ℕ → ℕ
raised count steps = min (count + steps) (2 ^ 64 - 1)
