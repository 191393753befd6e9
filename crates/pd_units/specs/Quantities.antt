-- Numbers with their units. A place has a unit of its own, in which a bare number is; `1500` and `1.5A` are the same current.
use Rattle.std.specs.Prelude.{ℕ, ◌+◌, ◌*◌, ◌/◌, ◌%◌, ◌^◌, ◌==◌, Bool, not, ◌&&◌, nat_le, List, [], ◌∷◌, take, drop, length}
use Rattle.std.specs.Prelude.{bytes_eq, codes, find, Option, Some, None, option_map, if◌then◌else◌}
use Rattle.std.specs.List.{position_from}
use Rattle.std.specs.Char.{is_ascii_digit}
use Rattle.pd_edit_lines.specs.Words.{number, ◌>>=◌}
use Rattle.pd_units.specs.declared.unit.Unit.{Unit}
use Rattle.pd_units.specs.declared.unit.Unit.TheVariants.{Microseconds, Millivolts, Milliamperes, Milliwatts, Microwatts}

-- a unit's name, and how many of the place's own units it is
abbrev pub Named : Type 0
Named = List ℕ × ℕ

-- the units in which a number may stand where its own is this
abbrev pub units : Unit → List Named
units Microseconds = (codes "us", 1) ∷ (codes "ms", 1000) ∷ (codes "s", 1000000) ∷ []
units Millivolts = (codes "mV", 1) ∷ (codes "V", 1000) ∷ []
units Milliamperes = (codes "mA", 1) ∷ (codes "A", 1000) ∷ []
units Milliwatts = (codes "mW", 1) ∷ (codes "W", 1000) ∷ []
units Microwatts = (codes "uW", 1) ∷ (codes "mW", 1000) ∷ (codes "W", 1000000) ∷ []

abbrev pub scale : Unit → List ℕ → Option ℕ
scale own name = option_map (λ (unit : Named). unit.1) (find (λ (unit : Named). bytes_eq unit.0 name) (units own))

-- so many digits behind the point part one into this many, up to six
abbrev pub parts : ℕ → Option ℕ
parts places = if nat_le places 6 then Some (10 ^ places) else None

-- the quotient, where nothing is left over
abbrev pub whole : ℕ → ℕ → Option ℕ
whole n by = if n % by == 0 then Some (n / by) else None

-- digits, a point and digits, of such a scale, in the place's own unit
abbrev pub with_point : ℕ → List ℕ → List ℕ → Option ℕ
with_point scale before behind = do
  n ← number before
  m ← number behind
  by ← parts (length behind)
  more ← whole (m * scale) by
  Some (n * scale + more)

-- digits, with a point among them or without
abbrev pub scaled : ℕ → List ℕ → Option ℕ → Option ℕ
scaled scale numeral None = option_map (λ n. n * scale) (number numeral)
scaled scale numeral (Some point) = with_point scale (take point numeral) (drop (point + 1) numeral)

abbrev pub is_point : ℕ → Bool
is_point byte = byte == 46

-- a numeral and behind it a unit's name
abbrev pub with_unit : Unit → List ℕ → List ℕ → Option ℕ
with_unit own numeral name = do
  by ← scale own name
  scaled by numeral (position_from is_point 0 numeral)

-- a byte of a unit's name
abbrev pub is_of_name : ℕ → Bool
is_of_name byte = not (is_ascii_digit byte) && not (is_point byte)

abbrev pub split_in : Unit → List ℕ → Option ℕ → Option ℕ
split_in own word None = number word
split_in own word (Some place) = with_unit own (take place word) (drop place word)

-- a word as a number of a unit: bare digits, or a numeral with the name of a unit
abbrev pub number_in : Unit → List ℕ → Option ℕ
number_in own word = split_in own word (position_from is_of_name 0 word)
