-- The units of fields, and how a number in a unit is told.
use Rattle.std.specs.Prelude.{ℕ, ◌+◌, ◌*◌, ◌/◌, ◌%◌, ◌==◌, Bool, true, false, not, List, [], ◌∷◌, ◌++◌, codes, decimal, if◌then◌else◌}
use Rattle.std.specs.Prelude.{Option, Some, None}
use Rattle.pd_symbols.specs.Hex.{hex_digits}
use Rattle.pd_content.specs.declared.row.Unit.{Unit}
use Rattle.pd_content.specs.declared.row.Unit.TheVariants as unit

-- a number of thousandths, with two decimal places
unfoldable pub two_places : ℕ → List ℕ
two_places milli = decimal (milli / 1000) ++ 46 ∷ (48 + milli / 100 % 10) ∷ (48 + milli / 10 % 10) ∷ []

-- the current in mA that a cable is built for, by its number
abbrev pub rating_of : ℕ → Option ℕ
rating_of n = if n == 1 then Some 3000 else if n == 2 then Some 5000 else None

-- the word for a number in a unit of words, if there is one
abbrev pub word_for : Unit → ℕ → Option (List ℕ)
word_for unit.PowerRole n = if n == 0 then Some (codes "sink") else Some (codes "source")
word_for unit.DataRole n = if n == 0 then Some (codes "ufp") else Some (codes "dfp")
word_for unit.Sender n = if n == 0 then Some (codes "port") else Some (codes "plug")
word_for unit.Revision n =
    if n == 0 then Some (codes "1.0") else if n == 1 then Some (codes "2.0") else if n == 2 then Some (codes "3.0") else None
word_for unit.CommandType n =
    if n == 0 then Some (codes "REQ") else if n == 1 then Some (codes "ACK") else if n == 2 then Some (codes "NAK")
    else Some (codes "BUSY")
word_for unit.Command n =
    if n == 1 then Some (codes "Discover_Identity") else if n == 2 then Some (codes "Discover_SVIDs")
    else if n == 3 then Some (codes "Discover_Modes") else if n == 4 then Some (codes "Enter_Mode")
    else if n == 5 then Some (codes "Exit_Mode") else if n == 6 then Some (codes "Attention") else None
word_for unit.CableType n = if n == 3 then Some (codes "passive_cable") else if n == 4 then Some (codes "active_cable") else None
word_for _ n = None

-- the value of a number in a unit, as a text; a flag has none beside its name
abbrev pub value_text : Unit → ℕ → List ℕ
value_text (unit.Volts step) n = two_places (step * n) ++ codes " V"
value_text (unit.Amperes step) n = two_places (step * n) ++ codes " A"
value_text (unit.Watts step) n = two_places (step * n) ++ codes " W"
value_text unit.Flag n = []
value_text unit.Identifier n = hex_digits 4 n
value_text unit.Rating n = by_rating (rating_of n)
  where
    by_rating : Option ℕ → List ℕ
    by_rating (Some milliamperes) = two_places milliamperes ++ codes " A"
    by_rating None = decimal n
value_text unit n = by_word (word_for unit n)
  where
    by_word : Option (List ℕ) → List ℕ
    by_word (Some word) = word
    by_word None = decimal n

-- what the name of a member ends with
abbrev pub suffix_of : Unit → List ℕ
suffix_of (unit.Volts step) = codes "_mv"
suffix_of (unit.Amperes step) = codes "_ma"
suffix_of (unit.Watts step) = codes "_mw"
suffix_of unit.Rating = codes "_ma"
suffix_of _ = []

abbrev pub quoted : List ℕ → List ℕ
quoted word = 34 ∷ word ++ 34 ∷ []

-- the value of a number in a unit, in JSON
abbrev pub value_json : Unit → ℕ → List ℕ
value_json (unit.Volts step) n = decimal (step * n)
value_json (unit.Amperes step) n = decimal (step * n)
value_json (unit.Watts step) n = decimal (step * n)
value_json unit.Flag n = if n == 0 then codes "false" else codes "true"
value_json unit.Identifier n = quoted (hex_digits 4 n)
value_json unit.Rating n = by_rating (rating_of n)
  where
    by_rating : Option ℕ → List ℕ
    by_rating (Some milliamperes) = decimal milliamperes
    by_rating None = codes "null"
value_json unit n = by_word (word_for unit n)
  where
    by_word : Option (List ℕ) → List ℕ
    by_word (Some word) = quoted word
    by_word None = decimal n

-- whether a text tells the number: a flag that isn't set and a level of 0 are passed over
abbrev pub is_told : Unit → ℕ → Bool
is_told unit.Flag n = not (n == 0)
is_told unit.Level n = not (n == 0)
is_told _ n = true
