-- Voltages, currents and powers as text: this product's own form.
use Rattle.std.specs.Prelude.{ℕ, ◌+◌, ◌/◌, ◌%◌, List, ◌∷◌, ◌++◌, codes, decimal}
use Rattle.pd_content.specs.Units.{two_places}

-- a number of millivolts, in volts
unfoldable pub volts : ℕ → List ℕ
volts mv = two_places mv ++ codes " V"

-- a number of milliamperes, in amperes
unfoldable pub amperes : ℕ → List ℕ
amperes ma = two_places ma ++ codes " A"

-- the digit of a number at the place of so many units
abbrev pub digit_at : ℕ → ℕ → ℕ
digit_at place n = 48 + n / place % 10

-- A number of microwatts, in watts, with four decimal places: a voltage in steps of 50 mV by a current in steps of 10 mA is a
-- multiple of 500 microwatts.
unfoldable pub watts : ℕ → List ℕ
watts uw =
    decimal (uw / 1000000) ++ (46 ∷ digit_at 100000 uw ∷ digit_at 10000 uw ∷ digit_at 1000 uw ∷ digit_at 100 uw ∷ codes " W")
