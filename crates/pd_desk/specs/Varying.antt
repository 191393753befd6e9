-- What a line of `:vary` asks for: docs/LAB.md, "Desk's own lines".
--     :vary floor 1 {}=45W..65W/5W ; floor 2 {}=15W,20W tell least power 1, margin
-- A set and the names are read as those of `pdlab vary`.
use Rattle.std.specs.Prelude.{◌≡◌, ◌<◌, ◌⊎◌, ℕ, ◌-◌, ◌==◌, Bool, List, [], ◌∷◌, ◌++◌, codes, length, take, unwrap_or}
use Rattle.std.specs.Prelude.{Option, None, Some, Result, Ok, Err}
use Rattle.std.specs.List.{slice_split}
use Rattle.pd_expect.specs.Named.{behind, or_else, trim}
use Rattle.pd_vary.specs.Asks.{greatest_port}
use Rattle.pd_vary.specs.Names.{asks_of}
use Rattle.pd_vary.specs.Sets.{SetData, few_rows, set_of}
use Rattle.pd_vary.specs.declared.ask.Ask.{Ask}
use Rattle.pd_vary.specs.declared.set.SetFault.{SetFault}
use Rattle.pd_vary.specs.declared.set.SetFault.TheVariants as set_faults

-- ---- its parts

-- what stands behind the word
abbrev pub varied_text : List ℕ → List ℕ
varied_text line = unwrap_or (behind (codes ":vary") line) []

-- what stands behind the first word `tell`, where it is there
unfoldable pub names_in : List ℕ → Option (List ℕ)
names_in [] = None
names_in (c ∷ cs) = or_else (behind (codes " tell ") (c ∷ cs)) (names_in cs)

-- what stands before it: 6 bytes are between them
abbrev pub sets_before : List ℕ → Option (List ℕ) → List ℕ
sets_before text None = text
sets_before text (Some names) = take (length text - length names - 6) text

-- semicolons part the sets
abbrev pub is_semicolon : ℕ → Bool
is_semicolon byte = byte == 59

abbrev pub set_texts : List ℕ → List (List ℕ)
set_texts text = slice_split is_semicolon text

-- what is measured where the line doesn't say
abbrev pub usual_names : List ℕ
usual_names = codes "margin, faults, hard resets"

abbrev pub names_of : Option (List ℕ) → List ℕ
names_of None = usual_names
names_of (Some names) = trim names

-- ---- what is told where one of them is wrong

-- why a text is no set, as `pdlab vary` says it
abbrev pub set_sentence : SetFault → List ℕ
set_sentence set_faults.NoValues = codes "no `=` stands between an edit line and its values, as in `floor 1 {}=45W,60W`"
set_sentence set_faults.NoPlace = codes "no place `{}` stands in the edit line, as in `floor 1 {}=45W,60W`"
set_sentence set_faults.TwoPlaces = codes "more than one place `{}` stands in the edit line"
set_sentence set_faults.NoNumber = codes "a value is no number that may stand in the place, or the range isn't FROM..TO/STEP"
set_sentence set_faults.Backwards = codes "the range ends before it begins"
set_sentence set_faults.NoStep = codes "the step of the range is 0"
set_sentence set_faults.TooMany = codes "the range has more than 1000000 numbers"
set_sentence set_faults.Memory = codes "there is no memory for it"

abbrev pub set_told : List ℕ → SetFault → List ℕ
set_told text fault = codes "`" ++ (text ++ (codes "`: " ++ (set_sentence fault ++ codes "\n")))

unfoldable pub names_told : List ℕ → List ℕ
names_told names =
    codes "tell `" ++ (names ++ (codes "`: there are voltage, current, power, least power, greatest power, less power, more power "
    ++ (codes "and differs until, each with the number of a port, 1 to 8, and margin, lowest at, faults and hard resets, "
    ++ codes "with commas between them\n")))

abbrev pub rows_told : List ℕ
rows_told = codes "the values have more than 1000000 combinations\n"

-- ---- what it asks for, or what is told of the first part that is wrong

-- values of edit lines, and what is measured of each row
pub record VariedData : Type 0 where
  pub sets : List SetData
  pub asks : List Ask

abbrev pub asks_for : List SetData → List Ask → Result VariedData (List ℕ)
asks_for sets asks = Ok (record { sets = sets; asks = asks })

-- blanks may stand around a set
abbrev pub set_or_told : List ℕ → Result SetData SetFault → Result SetData (List ℕ)
set_or_told text (Ok set) = Ok set
set_or_told text (Err fault) = Err (set_told text fault)

abbrev pub set_by : List ℕ → Result SetData (List ℕ)
set_by text = set_or_told (trim text) (set_of (trim text))

abbrev pub with_set : Result SetData (List ℕ) → Result (List SetData) (List ℕ) → Result (List SetData) (List ℕ)
with_set (Err told) sets = Err told
with_set (Ok set) (Err told) = Err told
with_set (Ok set) (Ok sets) = Ok (set ∷ sets)

unfoldable pub sets_by : List (List ℕ) → Result (List SetData) (List ℕ)
sets_by [] = Ok []
sets_by (text ∷ texts) = with_set (set_by text) (sets_by texts)

abbrev pub asks_or_told : List ℕ → Option (List Ask) → Result (List Ask) (List ℕ)
asks_or_told names None = Err (names_told names)
asks_or_told names (Some asks) = Ok asks

abbrev pub asks_by : Option (List ℕ) → Result (List Ask) (List ℕ)
asks_by names = asks_or_told (names_of names) (asks_of (names_of names))

abbrev pub with_asks : Result (List SetData) (List ℕ) → Result (List Ask) (List ℕ) → Result VariedData (List ℕ)
with_asks (Err told) asks = Err told
with_asks (Ok sets) (Err told) = Err told
with_asks (Ok sets) (Ok asks) = asks_for sets asks

abbrev pub varied_by : List ℕ → Option (List ℕ) → Result VariedData (List ℕ)
varied_by text names = with_asks (sets_by (set_texts (sets_before text names))) (asks_by names)

-- ` SET [; SET ..] [tell NAMES]`
abbrev pub varied_in : List ℕ → Result VariedData (List ℕ)
varied_in text = varied_by text (names_in text)

unfoldable pub varied_of : List ℕ → Result VariedData (List ℕ)
varied_of line = varied_in (varied_text line)

-- ---- why no row is told

-- a charger of n ports hasn't the port that is named
abbrev pub MissesPort : ℕ → Option ℕ → Type 0
MissesPort n None = ⊥
MissesPort n (Some port) = (port < 1) ⊎ (n < port)

-- nor one of which something is measured
abbrev pub MissesAsked : ℕ → Result VariedData (List ℕ) → Type 0
MissesAsked n (Err told) = ⊥
MissesAsked n (Ok varied) = MissesPort n (greatest_port varied.asks)

-- what is told of a wrong part, or of too many rows
abbrev pub RefusesVaried : Result VariedData (List ℕ) → List ℕ → Type 0
RefusesVaried (Err told) text = text ≡ told
RefusesVaried (Ok varied) text = (few_rows varied.sets ≡ None) × (text ≡ rows_told)
