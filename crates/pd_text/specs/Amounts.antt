-- Numbers in their units, as a line shows them: this product's own form.
use Rattle.std.specs.Prelude.{ℕ, ◌+◌, ◌/◌, ◌%◌, List, [], ◌∷◌, ◌++◌, codes, decimal}
use Rattle.pd_text.specs.declared.piece.Unit.{Unit}
use Rattle.pd_text.specs.declared.piece.Unit.TheVariants as unit

-- the digit of a number at the place of so many units
abbrev pub digit_at : ℕ → ℕ → ℕ
digit_at place n = 48 + n / place % 10

-- a number of thousandths, with two decimal places
unfoldable pub two_places : ℕ → List ℕ
two_places milli = decimal (milli / 1000) ++ (46 ∷ digit_at 100 milli ∷ digit_at 10 milli ∷ [])

-- A number of microwatts, in watts, with four decimal places: a voltage in steps of 50 mV by a current in steps of 10 mA is a
-- multiple of 500 microwatts.
unfoldable pub watts : ℕ → List ℕ
watts uw =
    decimal (uw / 1000000) ++ (46 ∷ digit_at 100000 uw ∷ digit_at 10000 uw ∷ digit_at 1000 uw ∷ digit_at 100 uw ∷ codes " W")

-- a number of this unit
abbrev pub amount : Unit → ℕ → List ℕ
amount unit.Plain n = decimal n
amount unit.Microseconds n = decimal n ++ codes " us"
amount unit.Millivolts n = two_places n ++ codes " V"
amount unit.Milliamperes n = two_places n ++ codes " A"
amount unit.Microwatts n = watts n
