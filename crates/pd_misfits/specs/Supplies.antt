-- Which supply of a list is told: the first at which it isn't what the rule of a refusal wants.
use Rattle.std.specs.Prelude.{ℕ, ◌+◌, ℤ, pos, negsuc, Bool, true, false, ◌&&◌, ◌==◌, not, nat_le, nat_lt, List, [], ◌∷◌, ◌++◌, length}
use Rattle.std.specs.Prelude.{codes, decimal, find, Option, Some, None, if◌then◌else◌}
use Rattle.std.specs.List.{flat_map}
use Rattle.toml.specs.Data.{Data, array, integer, no_items, item}
use Rattle.pd_scenario.specs.Limits.{most_supplies, first_mv}
use Rattle.pd_scenario.specs.declared.limits.Quantity.{Quantity}
use Rattle.pd_scenario.specs.declared.limits.Quantity.TheVariants.{Voltage, Current}
use Rattle.pd_units.specs.Readings.{number_reading}
use Rattle.pd_scenario_tables.specs.declared.fault.ScenarioFault.{ScenarioFault}
use Rattle.pd_scenario_tables.specs.declared.fault.ScenarioFault.TheVariants as fault
use Rattle.pd_scenario_tables.specs.Values.{elements, is_within, natural}
use Rattle.pd_misfits.specs.Values.{value_text}

-- a pair of whole numbers: a voltage and a current
abbrev pub both : Data → Data → Option (ℤ × ℤ)
both (integer mv) (integer ma) = Some (mv, ma)
both _ _ = None

abbrev pub pair : Data → Option (ℤ × ℤ)
pair (array (item a (item b no_items))) = both a b
pair _ = None

-- the first voltage is 5 V, each other above the one before
abbrev pub is_next : ℕ → ℕ → ℕ → Bool
is_next number before mv = if number == 1 then mv == first_mv else nat_lt before mv

abbrev pub pair_fits : ScenarioFault → ℕ → ℕ → ℤ × ℤ → Bool
pair_fits fault.Range number before p = is_within Voltage p.0 && is_within Current p.1
pair_fits fault.Supplies number before p = not (nat_lt most_supplies number) && is_next number before (natural p.0)
pair_fits _ number before p = true

-- a supply at its place, from 1, behind one of such a voltage
abbrev pub fits : ScenarioFault → ℕ → ℕ → Option (ℤ × ℤ) → Bool
fits refusal number before None = false
fits refusal number before (Some p) = pair_fits refusal number before p

abbrev pub voltage : Option (ℤ × ℤ) → ℕ
voltage None = 0
voltage (Some p) = natural p.0

-- ---- a supply as it is shown

abbrev pub behind_comma : Data → List ℕ
behind_comma d = codes ", " ++ value_text d

abbrev pub joined : List Data → List ℕ
joined [] = []
joined (d ∷ ds) = value_text d ++ flat_map behind_comma ds

unfoldable pub short_text : List Data → List ℕ
short_text ds = codes "[" ++ (joined ds ++ codes "]")

unfoldable pub long_text : ℕ → List ℕ
long_text count = codes "a list of " ++ (decimal count ++ codes " values")

-- the values of a list, where there are at most three
abbrev pub list_text : List Data → List ℕ
list_text ds = if nat_le (length ds) 3 then short_text ds else long_text (length ds)

abbrev pub supply_text : Data → List ℕ
supply_text (array ds) = list_text (elements ds)
supply_text d = value_text d

-- ---- the supply that is told

unfoldable pub place_text : ℕ → Data → List ℕ
place_text number d = codes " whose supply " ++ (decimal number ++ (codes " is " ++ supply_text d))

-- the first that doesn't fit, of those from a place on
unfoldable pub misfit_text : ScenarioFault → ℕ → ℕ → List Data → List ℕ
misfit_text refusal number before [] = []
misfit_text refusal number before (d ∷ ds) =
    if fits refusal number before (pair d) then misfit_text refusal (number + 1) (voltage (pair d)) ds else place_text number d

unfoldable pub supplies_text : ScenarioFault → List Data → List ℕ
supplies_text refusal ds = codes "a list" ++ misfit_text refusal 1 0 ds

-- ---- in which other unit it may have been meant

-- a number that isn't within a quantity, where a thousand times as much is
abbrev pub number_hint : Quantity → ℤ → List ℕ
number_hint quantity (pos n) = number_reading quantity n
number_hint quantity (negsuc n) = []

-- the same, where it isn't within it
abbrev pub other_hint : Quantity → ℤ → List ℕ
other_hint quantity z = if is_within quantity z then [] else number_hint quantity z

-- between two hints, where both are there
abbrev pub comma : List ℕ → List ℕ → List ℕ
comma first second = if nat_lt 0 (length first) && nat_lt 0 (length second) then codes ", " else []

unfoldable pub both_hints : List ℕ → List ℕ → List ℕ
both_hints first second = first ++ (comma first second ++ second)

abbrev pub pair_hint : Option (ℤ × ℤ) → List ℕ
pair_hint None = []
pair_hint (Some p) = both_hints (other_hint Voltage p.0) (other_hint Current p.1)

abbrev pub supply_hint : Option Data → List ℕ
supply_hint None = []
supply_hint (Some d) = pair_hint (pair d)

-- of the first that isn't within its ranges
abbrev pub is_out : Data → Bool
is_out d = not (fits fault.Range 0 0 (pair d))

abbrev pub supplies_hint : List Data → List ℕ
supplies_hint ds = supply_hint (find is_out ds)
