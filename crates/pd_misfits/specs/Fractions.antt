-- What is likelier meant by a fraction in place of a number that has a unit: so much of the unit that people write.
use Rattle.std.specs.Prelude.{ℕ, zero, suc, ◌+◌, ◌*◌, ◌/◌, ◌%◌, ◌==◌, ◌&&◌, nat_lt, pos, Bool, false, List, [], ◌∷◌, ◌++◌, codes, decimal}
use Rattle.std.specs.Prelude.{Option, None, Some, is_some, if◌then◌else◌}
use Rattle.std.specs.Float.Ieee
use Rattle.std.specs.Float.{Float, binary64, float_to_unsigned}
use Rattle.std.specs.Int.{w64}
use Rattle.pd_scenario.specs.Limits.{allows}
use Rattle.pd_scenario.specs.Words.{rating_of}
use Rattle.pd_scenario_tables.specs.declared.schema.Form.{Form}
use Rattle.pd_scenario_tables.specs.declared.schema.Form.TheVariants.{Number, RatingNumber}
use Rattle.pd_units.specs.Readings.{is_text, one_in, unit_of}
use Rattle.pd_units.specs.declared.unit.Unit.{Unit}
use Rattle.pd_units.specs.declared.unit.Unit.TheVariants.{Microseconds, Millivolts, Milliamperes, Milliwatts, Microwatts}

-- ---- units

-- the unit of the numbers of a form
abbrev pub form_unit : Form → Option Unit
form_unit (Number quantity) = unit_of quantity
form_unit RatingNumber = Some Milliamperes
form_unit form = None

-- the one of the same kind that people write
abbrev pub great_name : Unit → List ℕ
great_name Microseconds = codes "s"
great_name Millivolts = codes "V"
great_name Milliamperes = codes "A"
great_name Milliwatts = codes "W"
great_name Microwatts = codes "W"

-- how many of the unit that is, and how many millionths of it one of the unit is
abbrev pub size_of : Unit → ℕ
size_of Microseconds = 1000000
size_of Millivolts = 1000
size_of Milliamperes = 1000
size_of Milliwatts = 1000
size_of Microwatts = 1000000

abbrev pub millionths_of : Unit → ℕ
millionths_of Microseconds = 1
millionths_of Millivolts = 1000
millionths_of Milliamperes = 1000
millionths_of Milliwatts = 1000
millionths_of Microwatts = 1

-- ---- a fraction of the greater unit in the other one

abbrev pub product : Float → ℕ → Float
product x size = Ieee.mul binary64 x (Ieee.of_int binary64 (pos size))

-- where that is this whole number
abbrev pub whole_of : Float → ℕ → Option ℕ
whole_of y n = if Ieee.eq (Ieee.of_int binary64 (pos n)) y then Some n else None

abbrev pub whole_in : ℕ → Float → Option ℕ
whole_in size x = whole_of (product x size) (float_to_unsigned w64 (product x size))

-- ---- so many millionths of one

-- the digits behind the point, so many at most, without noughts at their end
unfoldable pub digits_behind : ℕ → ℕ → List ℕ
digits_behind zero rest = []
digits_behind (suc places) rest = if rest == 0 then [] else (48 + rest / 100000) ∷ digits_behind places (rest % 100000 * 10)

abbrev pub behind_point : ℕ → List ℕ
behind_point rest = if rest == 0 then [] else 46 ∷ digits_behind 6 rest

abbrev pub numeral : ℕ → List ℕ
numeral millionths = decimal (millionths / 1000000) ++ behind_point (millionths % 1000000)

-- ---- the hint

-- the number is allowed there; none of a thousand millions is anywhere
abbrev pub form_allows : Form → ℕ → Bool
form_allows (Number quantity) n = allows quantity n
form_allows RatingNumber n = is_some (rating_of n)
form_allows form n = false

abbrev pub is_meant : Form → ℕ → Bool
is_meant form n = nat_lt n 1000000000 && form_allows form n

abbrev pub meant_in : Unit → ℕ → List ℕ
meant_in own n = is_text (numeral (n * millionths_of own)) (great_name own) n

-- the number that is allowed, or what one of the unit is
abbrev pub number_or_one : Form → Unit → Option ℕ → List ℕ
number_or_one form own None = one_in (Some own)
number_or_one form own (Some n) = if is_meant form n then meant_in own n else one_in (Some own)

abbrev pub fraction_in : Form → Option Unit → Float → List ℕ
fraction_in form None x = []
fraction_in form (Some own) x = number_or_one form own (whole_in (size_of own) x)

abbrev pub fraction_hint : Form → Float → List ℕ
fraction_hint form x = fraction_in form (form_unit form) x
