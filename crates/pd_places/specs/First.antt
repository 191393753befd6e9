-- What the first line of a file's places tells: the number that `check` answers.
use Rattle.std.specs.Prelude.{◌≡◌, ◌⊎◌, ℕ, true, false, List, [], ◌∷◌, ◌++◌, Ok, Err, Option, All}
use Rattle.std.specs.List.{list_any}
use Rattle.pd_text.specs.declared.piece.Form.{Form}
use Rattle.pd_text.specs.Fronts.{FrontData}
use Rattle.toml.specs.Data.{Members}
use Rattle.pd_scenario_tables.specs.declared.fault.ScenarioFault.{ScenarioFault}
use Rattle.pd_scenario_tables.specs.declared.fault.ScenarioFault.TheVariants.{Toml, UnknownKey, WrongType, MissingKey, Range, Name}
use Rattle.pd_scenario_tables.specs.declared.fault.ScenarioFault.TheVariants.{Supplies, Limit, Memory}
use Rattle.pd_scenario_tables.specs.Ports.{counted}
use Rattle.pd_scenario_text.specs.FileTables.{Tables, tables_of}
use Rattle.pd_scenario_text.specs.Refusals.{applies, refusals, table_refusals}
use Rattle.pd_scenario_text.specs.Reading.{reading, Counts, Reads}
use Rattle.pd_misfits.specs.Marks.{line_of}
use Rattle.pd_misfits.specs.Spots.{FileData, SpotData, file_spot, refused_front}
use Rattle.pd_misfits.specs.Texts.{syntax_front}
use Rattle.pd_places.specs.Places.{refusal_text, places_text, file_of, TellsPlaces}

-- a text begins with another
abbrev pub BeginsWith : List ℕ → List ℕ → Type 0
BeginsWith front text = (rest : List ℕ) × (text ≡ front ++ rest)

-- what is told begins with the file, a line of it where one is found, and the number of the refusal
abbrev pub Begins : SpotData → List ℕ → Type 0
Begins spot text =
    (table : List ℕ) × (number : ℕ) × (key : List ℕ)
    × BeginsWith ((refused_front spot.file.front (line_of spot.file.lines table number key) spot.refusal).text) text

-- ---- of each refusal

-- where a refusal applies there are places, and the first of them tells its number; where it doesn't, there are none
abbrev pub IsToldOf : FileData → ℕ → Tables → ScenarioFault → Type 0
IsToldOf file ports d refusal =
    ((applies refusal ports d ≡ true) × Begins (file_spot file refusal) (refusal_text file refusal d))
    ⊎ ((applies refusal ports d ≡ false) × (refusal_text file refusal d ≡ []))

-- none of the refusals up to the names, 2 to 6, applies
abbrev pub ArePlain : ℕ → Tables → Type 0
ArePlain ports d = list_any (λ refusal. applies refusal ports d) table_refusals ≡ false

-- those that are of single tables, and that of the counts of tables
abbrev pub always_told : List ScenarioFault
always_told = UnknownKey ∷ WrongType ∷ MissingKey ∷ Range ∷ Name ∷ Supplies ∷ Limit ∷ []

-- A refusal of a file whose ports are counted is told exactly where it applies: 2 to 6, 8 and 11 always, and 7, 9 and 10
-- where none up to 6 applies.
abbrev pub ToldWhereItApplies : Type 0
ToldWhereItApplies =
    (file : FileData) (ports : ℕ) (t : Members) → counted t ≡ Ok ports
    → All (IsToldOf file ports (tables_of t)) always_told
    × (ArePlain ports (tables_of t) → All (IsToldOf file ports (tables_of t)) refusals)

-- ---- of the tables of a file

-- a file of tables is refused: its ports can't be counted, or the least refusal that applies is this one
abbrev pub IsRefusedFor : ScenarioFault → Members → Type 0
IsRefusedFor refusal t =
    (counted t ≡ Err refusal) ⊎ ((ports : ℕ) × (counted t ≡ Ok ports) × (reading ports t ≡ Err refusal))

-- Then there is a place, and the first line tells the number of that refusal.
abbrev pub TheLeastIsFirst : Type 0
TheLeastIsFirst =
    (file : FileData) (refusal : ScenarioFault) (t : Members) → IsRefusedFor refusal t
    → Begins (file_spot file refusal) (places_text file t)

-- ---- of the text of a file

-- The text of a file is answered by a refusal: when its ports are counted, or when it is read for so many. `check` answers so
-- (`IsRefused` of pd_run_text).
abbrev pub IsAnswered : ScenarioFault → List ℕ → Type 0
IsAnswered refusal text =
    Counts text (Err refusal) ⊎ ((ports : ℕ) × Counts text (Ok ports) × Reads ports text (Err refusal))

-- What is said begins with the number of a refusal, behind the file and the number of a line where one is found; that of no TOML
-- always behind the number of a line. Nothing is said of want of memory.
abbrev pub TellsFirst : FrontData → ScenarioFault → List ℕ → Type 0
TellsFirst file Memory said = Unit {0}
TellsFirst file Toml said = (number : ℕ) × BeginsWith ((syntax_front file number).text) said
TellsFirst file refusal said = (line : Option ℕ) × BeginsWith ((refused_front file line refusal).text) said

-- What is told of a text begins with the number of the refusal that it is answered by.
abbrev pub TheAnswerIsFirst : Type 0
TheAnswerIsFirst =
    (form : Form) (name text said : List ℕ) (refusal : ScenarioFault) → IsAnswered refusal text → TellsPlaces (file_of form name) text said
    → TellsFirst (file_of form name) refusal said
