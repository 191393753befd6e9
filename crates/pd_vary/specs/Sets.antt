-- An edit line with a place in it, and the values that stand there in turn: docs/LAB.md, "Vary".
--     floor 1 {}=45W..65W/5W
--     caps 1 5000 3000 20000 {}=3000,3250,5000
-- A range has FROM, FROM + STEP and so on, up to TO. Where the place has a unit, its numbers may have one too; the line has them in digits.
use Rattle.std.specs.Prelude.{ℕ, ◌+◌, ◌-◌, ◌*◌, ◌/◌, ◌%◌, ◌==◌, Bool, true, max, nat_lt, List, [], ◌∷◌, ◌++◌, decimal, length, map}
use Rattle.std.specs.Prelude.{if◌then◌else◌, is_some, Option, None, Some, Result, Ok, Err, slice_get, unwrap_or, nat_le}
use Rattle.std.specs.List.{flat_map, list_all, list_any, range_with_len}
use Rattle.pd_edit_lines.specs.Stops.{stop_from}
use Rattle.pd_edit_lines.specs.Table.{rows}
use Rattle.pd_edit_lines.specs.Words.{number, words}
use Rattle.pd_edit_lines.specs.declared.rows.Front.TheVariants.{Start}
use Rattle.pd_edit_lines.specs.declared.rows.Row.{Row}
use Rattle.pd_expect.specs.Lines.{cut, ends_of}
use Rattle.pd_units.specs.Quantities.{number_in}
use Rattle.pd_units.specs.Readings.{unit_at}
use Rattle.pd_units.specs.declared.unit.Unit.{Unit}
use Rattle.pd_vary.specs.declared.set.SetFault.{SetFault}
use Rattle.pd_vary.specs.declared.set.SetFault.TheVariants.{NoValues, NoPlace, TwoPlaces, NoNumber, Backwards, NoStep, TooMany}
use Rattle.pd_vary.specs.declared.set.EditSet.{EditSet}
use Rattle.pd_vary.specs.declared.set.Values.{Values}
use Rattle.pd_vary.specs.declared.set.Values.TheVariants as code

-- ---- a set

-- words, or so many numbers, each by the same step after the one before
pub data ValuesData : Type 0 where
  listed : List (List ℕ) → ValuesData
  steps : (from step count : ℕ) → ValuesData

-- what stands before the place and behind it, and what stands there in turn
pub record SetData : Type 0 where
  pub before : List ℕ
  pub behind : List ℕ
  pub values : ValuesData

-- how many values there are; none is one that is empty
abbrev pub count_of : ValuesData → ℕ
count_of (listed ws) = max 1 (length ws)
count_of (steps from step count) = max 1 count

-- one of them, the first at 0
abbrev pub value_at : ValuesData → ℕ → List ℕ
value_at (listed ws) i = unwrap_or (slice_get ws i) []
value_at (steps from step count) i = decimal (from + i * step)

-- the line with a value in its place
abbrev pub line_with : SetData → List ℕ → List ℕ
line_with s value = s.before ++ (value ++ s.behind)

-- ---- rows: each combination of values, the first set's turning slowest

-- how many there are
unfoldable pub rows_of : List SetData → ℕ
rows_of [] = 1
rows_of (s ∷ more) = count_of s.values * rows_of more

-- the values of a row, the first at 0
unfoldable pub values_at : List SetData → ℕ → List (List ℕ)
values_at [] row = []
values_at (s ∷ more) row = value_at s.values (row / rows_of more) ∷ values_at more (row % rows_of more)

-- all values of a set
abbrev pub all_values : ValuesData → List (List ℕ)
all_values v = map (value_at v) (range_with_len 0 (count_of v))

-- each value of the first set with each combination of the others
unfoldable pub combinations : List SetData → List (List (List ℕ))
combinations [] = [] ∷ []
combinations (s ∷ more) = flat_map (λ value. map (λ others. value ∷ others) (combinations more)) (all_values s.values)

abbrev pub most_rows : ℕ
most_rows = 1000000

-- so many rows, where they are no more than a million
abbrev pub few_rows : List SetData → Option ℕ
few_rows sets = if nat_le (rows_of sets) most_rows then Some (rows_of sets) else None

-- ---- how the values are read

-- the unit of what may stand behind these words of a line, where that has one
abbrev pub first_unit : List Row → Option Unit
first_unit [] = None
first_unit (row ∷ more) = unit_at row.slot

abbrev pub unit_behind : List ℕ → Option Unit
unit_behind before = first_unit (rows (stop_from Start (words before)).0)

-- a number: of that unit, or 1 to 10 digits
abbrev pub number_of : Option Unit → List ℕ → Option ℕ
number_of None word = number word
number_of (Some own) word = number_in own word

-- a word may stand there
abbrev pub fits : Option Unit → List ℕ → Bool
fits None word = true
fits (Some own) word = is_some (number_in own word)

-- as it stands there: a number of a unit in digits alone
abbrev pub in_digits : List ℕ → Option ℕ → List ℕ
in_digits word None = word
in_digits word (Some n) = decimal n

abbrev pub placed : Option Unit → List ℕ → List ℕ
placed None word = word
placed (Some own) word = in_digits word (number_in own word)

-- the words that commas part
abbrev pub with_front : ℕ → List (List ℕ) → List (List ℕ)
with_front c [] = (c ∷ []) ∷ []
with_front c (w ∷ ws) = (c ∷ w) ∷ ws

unfoldable pub parts : List ℕ → List (List ℕ)
parts [] = [] ∷ []
parts (c ∷ cs) = if c == 44 then [] ∷ parts cs else with_front c (parts cs)

-- what has begun of a word before the others
abbrev pub joined : List ℕ → List (List ℕ) → List (List ℕ)
joined word [] = word ∷ []
joined word (first ∷ more) = (word ++ first) ∷ more

-- from words, and one that has begun before the words of a text
abbrev pub words_from : List (List ℕ) → List ℕ → List ℕ → List (List ℕ)
words_from ws word text = ws ++ joined word (parts text)

abbrev pub listed_by : Option Unit → List (List ℕ) → Result ValuesData SetFault
listed_by unit ws = if list_all (fits unit) ws then Ok (listed (map (placed unit) ws)) else Err NoNumber

-- the numbers from one to another, a step apart
abbrev pub stepped_on : ℕ → ℕ → ℕ → Result ValuesData SetFault
stepped_on from step more = if nat_lt more most_rows then Ok (steps from step (more + 1)) else Err TooMany

abbrev pub stepped : ℕ → ℕ → ℕ → Result ValuesData SetFault
stepped from to step = if step == 0 then Err NoStep
    else (if nat_lt to from then Err Backwards else stepped_on from step ((to - from) / step))

abbrev pub stepped_by : Option ℕ → Option ℕ → Option ℕ → Result ValuesData SetFault
stepped_by (Some from) (Some to) (Some step) = stepped from to step
stepped_by _ _ _ = Err NoNumber

abbrev pub range_by : Option Unit → Option (List ℕ × List ℕ) → List ℕ → Result ValuesData SetFault
range_by unit None step = Err NoNumber
range_by unit (Some ends) step = stepped_by (number_of unit ends.0) (number_of unit ends.1) (number_of unit step)

-- FROM..TO/STEP, or words with commas between them
abbrev pub values_by : Option Unit → List ℕ → Option (List ℕ × List ℕ) → Result ValuesData SetFault
values_by unit text None = listed_by unit (parts text)
values_by unit text (Some range) = range_by unit (ends_of range.0) range.1

-- ---- how a set is read

-- what stands behind the brace that closes the place, where nothing else stands in it
abbrev pub behind_place : List ℕ → Option (List ℕ)
behind_place [] = None
behind_place (c ∷ cs) = if c == 125 then Some cs else None

abbrev pub is_opening : ℕ → Bool
is_opening byte = byte == 123

abbrev pub with_values : List ℕ → List ℕ → Result ValuesData SetFault → Result SetData SetFault
with_values before behind (Ok values) = Ok (record { before = before; behind = behind; values = values })
with_values before behind (Err fault) = Err fault

abbrev pub placed_by : List ℕ → List ℕ → Option (List ℕ) → Result SetData SetFault
placed_by text before None = Err NoPlace
placed_by text before (Some behind) = if list_any is_opening behind then Err TwoPlaces
    else with_values before behind (values_by (unit_behind before) text (cut 47 text))

abbrev pub line_by : List ℕ → Option (List ℕ × List ℕ) → Result SetData SetFault
line_by text None = Err NoPlace
line_by text (Some around) = placed_by text around.0 (behind_place around.1)

abbrev pub parted_by : Option (List ℕ × List ℕ) → Result SetData SetFault
parted_by None = Err NoValues
parted_by (Some around) = line_by around.1 (cut 123 around.0)

-- a line with a place, `=`, and its values
unfoldable pub set_of : List ℕ → Result SetData SetFault
set_of text = parted_by (cut 61 text)

-- ---- what the sets of the code are

abbrev pub values_data : Values → ValuesData
values_data (code.Words ws) = listed (map (λ w. w.items) ws.items)
values_data (code.Steps from step count) = steps from step count

abbrev pub set_data : EditSet → SetData
set_data s = record { before = s.before.items; behind = s.behind.items; values = values_data s.values }
