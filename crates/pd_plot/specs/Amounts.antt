-- Numbers as they stand in a picture: in seconds, volts, amperes or watts, without zeros at the end.
use Rattle.std.specs.Prelude.{ℕ, List, [], ◌∷◌, ◌++◌, codes, Option, None, Some}
use Rattle.pd_chart.specs.Amounts.{number_in}
use Rattle.pd_chart.specs.declared.amounts.Prefix.{Prefix}
use Rattle.pd_chart.specs.declared.amounts.Prefix.TheVariants.{Whole, Milli, Micro}
use Rattle.pd_units.specs.declared.unit.Unit.{Unit}
use Rattle.pd_units.specs.declared.unit.Unit.TheVariants.{Microseconds, Millivolts, Milliamperes, Milliwatts, Microwatts}

-- what a number of the unit is told in, as millionths of it; where there is no unit, the number itself
abbrev pub prefix_of : Option Unit → Prefix
prefix_of None = Micro
prefix_of (Some Microseconds) = Whole
prefix_of (Some Millivolts) = Milli
prefix_of (Some Milliamperes) = Milli
prefix_of (Some Milliwatts) = Milli
prefix_of (Some Microwatts) = Whole

abbrev pub name_of : Unit → List ℕ
name_of Microseconds = codes "s"
name_of Millivolts = codes "V"
name_of Milliamperes = codes "A"
name_of Milliwatts = codes "W"
name_of Microwatts = codes "W"

-- `2.5`
abbrev pub amount : Option Unit → ℕ → List ℕ
amount unit number = number_in (prefix_of unit) number

-- `2.5 W`
abbrev pub behind : Option Unit → List ℕ
behind None = []
behind (Some unit) = 32 ∷ name_of unit

unfoldable pub whole_amount : Option Unit → ℕ → List ℕ
whole_amount unit number = amount unit number ++ behind unit

-- `floor 2 {} (W)`
abbrev pub in_brackets : Option Unit → List ℕ
in_brackets None = []
in_brackets (Some unit) = codes " (" ++ (name_of unit ++ codes ")")
