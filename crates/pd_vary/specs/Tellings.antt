-- What is told of a row: this product's own words and keys, docs/LAB.md, "Vary".
use Rattle.std.specs.Prelude.{ℕ, ◌+◌, ◌==◌, Bool, true, false, List, [], ◌∷◌, ◌++◌, map, codes, decimal, if◌then◌else◌}
use Rattle.std.specs.Prelude.{Option, None, Some}
use Rattle.std.specs.Prelude.{unwrap_or}
use Rattle.std.specs.List.{flat_map, range_with_len}
use Rattle.pd_edit_lines.specs.Numbers.{number_of}
use Rattle.pd_hints.specs.Reasons.{reason_of}
use Rattle.pd_sweep.specs.declared.form.Form.{Form}
use Rattle.pd_sweep.specs.declared.form.Form.TheVariants.{Words, Json, Csv}
use Rattle.pd_text.specs.declared.piece.Form.{Form as PieceForm}
use Rattle.pd_text.specs.declared.piece.Form.TheVariants as piece
use Rattle.pd_text.specs.declared.piece.Unit.{Unit}
use Rattle.pd_text.specs.declared.piece.Unit.TheVariants as unit
use Rattle.pd_text.specs.Pieces.{PieceData, flag, kind, line_number, line_words, member_null, member_string, number, string}
use Rattle.pd_text.specs.Texts.{line_begin, line_end, line_of, text_of_all}
use Rattle.pd_vary.specs.declared.ask.Ask.{Ask}
use Rattle.pd_vary.specs.declared.ask.What.{What}
use Rattle.pd_vary.specs.declared.ask.What.TheVariants as what
use Rattle.pd_vary.specs.declared.condition.Condition.{Condition}
use Rattle.pd_vary.specs.declared.outcome.Outcome.{Outcome}
use Rattle.pd_vary.specs.declared.outcome.Outcome.TheVariants.{Ran, Refused}
use Rattle.pd_vary.specs.declared.outcome.Refusal.{Refusal}

-- ---- what is asked

-- its name, its unit, and what stands behind its key
abbrev pub name_of : What → List ℕ
name_of what.Voltage = codes "voltage"
name_of what.Current = codes "current"
name_of what.Power = codes "power"
name_of what.LeastPower = codes "least power"
name_of what.GreatestPower = codes "greatest power"
name_of what.LessPower = codes "less power"
name_of what.MorePower = codes "more power"
name_of what.DiffersUntil = codes "differs until"
name_of what.Margin = codes "margin"
name_of what.LowestAt = codes "lowest at"
name_of what.Faults = codes "faults"
name_of what.HardResets = codes "hard resets"

abbrev pub unit_of : What → Unit
unit_of what.Voltage = unit.Millivolts
unit_of what.Current = unit.Milliamperes
unit_of what.Power = unit.Microwatts
unit_of what.LeastPower = unit.Microwatts
unit_of what.GreatestPower = unit.Microwatts
unit_of what.LessPower = unit.Microseconds
unit_of what.MorePower = unit.Microseconds
unit_of what.DiffersUntil = unit.Microseconds
unit_of what.Margin = unit.Microwatts
unit_of what.LowestAt = unit.Microseconds
unit_of what.Faults = unit.Plain
unit_of what.HardResets = unit.Plain

abbrev pub unit_key : Unit → List ℕ
unit_key unit.Plain = []
unit_key unit.Microseconds = codes "_us"
unit_key unit.Millivolts = codes "_mv"
unit_key unit.Milliamperes = codes "_ma"
unit_key unit.Microwatts = codes "_uw"

-- the number of a port behind a byte; nothing for the charger
abbrev pub port_text : ℕ → ℕ → List ℕ
port_text byte port = if port == 0 then [] else byte ∷ decimal port

-- a key has a line below in place of each blank
abbrev pub key_byte : ℕ → ℕ
key_byte byte = if byte == 32 then 95 else byte

-- `least power 1`, and its key `least_power_1_uw`
abbrev pub ask_words : Ask → List ℕ
ask_words ask = name_of ask.what ++ port_text 32 ask.port

abbrev pub ask_key : Ask → List ℕ
ask_key ask = map key_byte (name_of ask.what) ++ (port_text 95 ask.port ++ unit_key (unit_of ask.what))

-- ---- a row in words, and as an object

abbrev pub pieces_of : List ℕ → List ℕ → Unit → Option ℕ → List PieceData
pieces_of words key unit (Some n) = line_words (codes "  ") ∷ line_words words ∷ number (codes " ") key unit n ∷ []
pieces_of words key unit None = line_words (codes "  ") ∷ line_words words ∷ line_words (codes " none") ∷ member_null key ∷ []

abbrev pub number_pieces : Ask → Option ℕ → List PieceData
number_pieces ask n = pieces_of (ask_words ask) (ask_key ask) (unit_of ask.what) n

-- each of what is asked with its number
unfoldable pub numbers_text : PieceForm → List Ask → List (Option ℕ) → List ℕ
numbers_text form (ask ∷ asks) (n ∷ numbers) = text_of_all form (number_pieces ask n) ++ numbers_text form asks numbers
numbers_text form _ _ = []

-- why an edit is refused
abbrev pub reason : Refusal → List ℕ
reason refusal = unwrap_or (reason_of (number_of refusal.fault)) []

abbrev pub refusal_pieces : Refusal → List PieceData
refusal_pieces refusal =
    number (codes "  edit ") (codes "refused_edit") unit.Plain refusal.edit
    ∷ number (codes " refused ") (codes "refusal") unit.Plain (number_of refusal.fault)
    ∷ string (codes ": ") (codes "reason") (reason refusal) ∷ []

-- `where_1`: the conditions are numbered from 1
abbrev pub where_key : ℕ → List ℕ
where_key position = codes "where_" ++ decimal position

-- whether a condition holds, or that it isn't known
abbrev pub verdict_pieces : ℕ → List ℕ → Option Bool → List PieceData
verdict_pieces position key (Some holds) =
    line_number (codes "  where ") unit.Plain position ∷ flag (codes " holds") (codes " fails") key holds ∷ []
verdict_pieces position key None =
    line_number (codes "  where ") unit.Plain position ∷ line_words (codes " none") ∷ member_null key ∷ []

-- of each in turn; the first has this position
unfoldable pub verdicts_text : PieceForm → ℕ → List (Option Bool) → List ℕ
verdicts_text form position [] = []
verdicts_text form position (verdict ∷ verdicts) =
    text_of_all form (verdict_pieces position (where_key position) verdict) ++ verdicts_text form (position + 1) verdicts

abbrev pub outcome_text : PieceForm → List Ask → Outcome → List ℕ
outcome_text form asks (Refused refusal) = text_of_all form (refusal_pieces refusal)
outcome_text form asks (Ran numbers verdicts) = numbers_text form asks numbers.items ++ verdicts_text form 1 verdicts.items

abbrev pub value_key : ℕ → List ℕ
value_key position = codes "value_" ++ decimal position

abbrev pub line_pieces : List ℕ → List ℕ → List ℕ → List PieceData
line_pieces key line value = line_words (codes "  ") ∷ line_words line ∷ member_string key value ∷ []

abbrev pub value_pieces : ℕ → List ℕ → List ℕ → List PieceData
value_pieces position line value = line_pieces (value_key position) line value

-- the edit lines, and in an object the values in their places; the first has this position
unfoldable pub values_text : PieceForm → ℕ → List (List ℕ) → List (List ℕ) → List ℕ
values_text form position (line ∷ lines) (value ∷ values) =
    text_of_all form (value_pieces position line value) ++ values_text form (position + 1) lines values
values_text form position _ _ = []

-- a row is numbered from 1
abbrev pub row_pieces : ℕ → List PieceData
row_pieces row = kind (codes "row") ∷ number [] (codes "row") unit.Plain row ∷ []

abbrev pub row_line : PieceForm → ℕ → List (List ℕ) → List (List ℕ) → List Ask → Outcome → List ℕ
row_line form row lines values asks outcome =
    line_begin form ++ (text_of_all form (row_pieces row) ++ (values_text form 1 lines values
    ++ (outcome_text form asks outcome ++ line_end form)))

-- ---- a row as comma-separated values

abbrev pub number_value : Option ℕ → List ℕ
number_value None = 44 ∷ []
number_value (Some n) = 44 ∷ decimal n

abbrev pub no_value : Ask → List ℕ
no_value ask = 44 ∷ []

abbrev pub verdict_value : Option Bool → List ℕ
verdict_value None = codes ","
verdict_value (Some true) = codes ",true"
verdict_value (Some false) = codes ",false"

abbrev pub no_verdict : Condition → List ℕ
no_verdict condition = 44 ∷ []

abbrev pub outcome_values : List Ask → List Condition → Outcome → List ℕ
outcome_values asks wheres (Refused refusal) =
    44 ∷ (decimal refusal.edit ++ (44 ∷ (decimal (number_of refusal.fault) ++ (flat_map no_value asks ++ flat_map no_verdict wheres))))
outcome_values asks wheres (Ran numbers verdicts) =
    codes ",," ++ (flat_map number_value numbers.items ++ flat_map verdict_value verdicts.items)

abbrev pub placed_value : List ℕ → List ℕ
placed_value value = 44 ∷ value

unfoldable pub row_values : ℕ → List (List ℕ) → List Ask → List Condition → Outcome → List ℕ
row_values row values asks wheres outcome =
    decimal row ++ (flat_map placed_value values ++ (outcome_values asks wheres outcome ++ codes "\n"))

-- the head: the columns' names
abbrev pub value_name : ℕ → List ℕ
value_name position = 44 ∷ value_key position

abbrev pub ask_name : Ask → List ℕ
ask_name ask = 44 ∷ ask_key ask

abbrev pub where_name : ℕ → List ℕ
where_name position = 44 ∷ where_key position

-- ---- in the three forms

abbrev pub row_text : Form → ℕ → List (List ℕ) → List (List ℕ) → List Ask → List Condition → Outcome → List ℕ
row_text Words row lines values asks wheres outcome = row_line piece.Words row lines values asks outcome
row_text Json row lines values asks wheres outcome = row_line piece.Json row lines values asks outcome
row_text Csv row lines values asks wheres outcome = row_values row values asks wheres outcome

-- what stands before the first row: the names of the columns
unfoldable pub columns : ℕ → List Ask → ℕ → List ℕ
columns sets asks wheres = codes "row" ++ (flat_map value_name (range_with_len 1 sets) ++ (codes ",refused_edit,refusal"
    ++ (flat_map ask_name asks ++ (flat_map where_name (range_with_len 1 wheres) ++ codes "\n"))))

abbrev pub head : Form → ℕ → List Ask → ℕ → List ℕ
head Words sets asks wheres = []
head Json sets asks wheres = []
head Csv sets asks wheres = columns sets asks wheres

-- ---- what stands behind the last row, where something is expected: how many rows there are, and in how many all of it holds

abbrev pub summary_pieces : ℕ → ℕ → List PieceData
summary_pieces rows holding =
    kind (codes "summary") ∷ number (codes "rows ") (codes "rows") unit.Plain rows
    ∷ number (codes ", all hold in ") (codes "all_hold") unit.Plain holding ∷ []

abbrev pub summary_of : Form → ℕ → ℕ → List ℕ
summary_of Words rows holding = line_of piece.Words (summary_pieces rows holding)
summary_of Json rows holding = line_of piece.Json (summary_pieces rows holding)
summary_of Csv rows holding = []

abbrev pub summary : Form → List Condition → ℕ → ℕ → List ℕ
summary form [] rows holding = []
summary form (condition ∷ wheres) rows holding = summary_of form rows holding
