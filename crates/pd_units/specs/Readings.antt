-- Which units the numbers of files and edit lines have, and in which other unit a number that is refused may have been meant.
use Rattle.std.specs.Prelude.{ℕ, ◌*◌, ◌&&◌, nat_lt, List, [], ◌∷◌, ◌++◌, codes, decimal, drop, take, is_some}
use Rattle.std.specs.Prelude.{Option, None, Some, if◌then◌else◌}
use Rattle.std.specs.List.{position_from}
use Rattle.pd_scenario.specs.Limits.{allows}
use Rattle.pd_scenario.specs.Words.{rating_of}
use Rattle.pd_scenario.specs.declared.limits.Quantity.{Quantity}
use Rattle.pd_scenario.specs.declared.limits.Quantity.TheVariants as quantity
use Rattle.pd_edit_lines.specs.declared.slot.Slot.{Slot}
use Rattle.pd_edit_lines.specs.declared.slot.Slot.TheVariants as slot
use Rattle.pd_units.specs.Quantities.{is_of_name, number_in}
use Rattle.pd_units.specs.declared.unit.Unit.{Unit}
use Rattle.pd_units.specs.declared.unit.Unit.TheVariants.{Microseconds, Millivolts, Milliamperes, Milliwatts, Microwatts}

-- ---- the unit of a number

-- of a scenario
abbrev pub unit_of : Quantity → Option Unit
unit_of quantity.Time = Some Microseconds
unit_of quantity.Budget = Some Milliwatts
unit_of quantity.Floor = Some Milliwatts
unit_of quantity.Voltage = Some Millivolts
unit_of quantity.Current = Some Milliamperes
unit_of quantity.Demand = Some Milliwatts
unit_of _ = None

-- of a word of an edit line
abbrev pub unit_at : Slot → Option Unit
unit_at slot.At = Some Microseconds
unit_at slot.Mw = Some Milliwatts
unit_at slot.Rating = Some Milliamperes
unit_at slot.Max = Some Millivolts
unit_at slot.Wanted = Some Milliwatts
unit_at slot.Mv = Some Millivolts
unit_at slot.Ma = Some Milliamperes
unit_at _ = None

-- ---- its name

abbrev pub name_of : Unit → List ℕ
name_of Microseconds = codes "us"
name_of Millivolts = codes "mV"
name_of Milliamperes = codes "mA"
name_of Milliwatts = codes "mW"
name_of Microwatts = codes "uW"

-- behind a number
abbrev pub behind : Option Unit → List ℕ
behind None = []
behind (Some own) = 32 ∷ name_of own

abbrev pub unit_text : Quantity → List ℕ
unit_text quantity = behind (unit_of quantity)

-- ---- a number in another unit

-- a thousand of a unit
abbrev pub thousand_of : Unit → List ℕ
thousand_of Microseconds = codes "ms"
thousand_of Millivolts = codes "V"
thousand_of Milliamperes = codes "A"
thousand_of Milliwatts = codes "W"
thousand_of Microwatts = codes "mW"

-- behind a numeral: ` W is 140000`
unfoldable pub name_text : List ℕ → ℕ → List ℕ
name_text name n = 32 ∷ (name ++ (codes " is " ++ decimal n))

abbrev pub is_text : List ℕ → List ℕ → ℕ → List ℕ
is_text numeral name n = numeral ++ name_text name n

abbrev pub thousands_text : Unit → ℕ → List ℕ
thousands_text own n = is_text (decimal n) (thousand_of own) (n * 1000)

-- A number that a quantity doesn't allow, where it allows a thousand times as much. No million of thousands is allowed anywhere.
abbrev pub number_in_thousands : Quantity → ℕ → Option Unit → List ℕ
number_in_thousands quantity n None = []
number_in_thousands quantity n (Some own) =
    if nat_lt n 1000000 && allows quantity (n * 1000) then thousands_text own n else []

abbrev pub number_reading : Quantity → ℕ → List ℕ
number_reading quantity n = number_in_thousands quantity n (unit_of quantity)

-- the same of what a cable carries
abbrev pub rating_reading : ℕ → List ℕ
rating_reading n = if nat_lt n 1000000 && is_some (rating_of (n * 1000)) then thousands_text Milliamperes n else []

-- a word that has a unit behind it, of a kind that its place has
abbrev pub read_word : List ℕ → Option ℕ → Option ℕ → List ℕ
read_word word (Some place) (Some n) = is_text (take place word) (drop place word) n
read_word word _ _ = []

abbrev pub word_in : Option Unit → List ℕ → List ℕ
word_in None word = []
word_in (Some own) word = read_word word (position_from is_of_name 0 word) (number_in own word)

-- one of a unit that people write
abbrev pub one_in : Option Unit → List ℕ
one_in None = []
one_in (Some Microseconds) = codes "1 s is 1000000"
one_in (Some Millivolts) = codes "1 V is 1000"
one_in (Some Milliamperes) = codes "1 A is 1000"
one_in (Some Milliwatts) = codes "1 W is 1000"
one_in (Some Microwatts) = codes "1 W is 1000000"
