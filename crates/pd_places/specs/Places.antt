-- Each place at which a scenario file breaks a rule: this product's own form, docs/FORMATS.md, "Reasons".
use Rattle.std.specs.Prelude.{◌≡◌, ◌⊎◌, ℕ, ◌-◌, ◌≤◌, ◌<◌, ◌==◌, nat_lt, Bool, List, [], ◌∷◌, ◌++◌, length, take, map, slice_index}
use Rattle.std.specs.Prelude.{codes, Result, Ok, Err, if◌then◌else◌}
use Rattle.std.specs.List.{flat_map}
use Rattle.pd_text.specs.declared.piece.Form.{Form}
use Rattle.pd_text.specs.declared.piece.Form.TheVariants.{Words, Json}
use Rattle.pd_text.specs.Pieces as piece
use Rattle.pd_text.specs.Fronts.{FrontData, front_of_file, line_with}
use Rattle.toml.specs.Data.{Members}
use Rattle.pd_scenario_tables.specs.declared.fault.ScenarioFault.{ScenarioFault}
use Rattle.pd_scenario_tables.specs.declared.fault.ScenarioFault.TheVariants as fault
use Rattle.pd_scenario_tables.specs.Numbers.{number_of}
use Rattle.pd_scenario_tables.specs.Ports.{counted}
use Rattle.pd_scenario_text.specs.FileTables.{Tables, tables_of}
use Rattle.pd_scenario_text.specs.Reading.{IsTextOf}
use Rattle.pd_scenario_text.specs.Refusals.{refusals}
use Rattle.pd_misfits.specs.Lines.{file_text, top_text}
use Rattle.pd_misfits.specs.Marks.{LinesData, AreMarks}
use Rattle.pd_misfits.specs.Spots.{FileData, file_spot}
use Rattle.pd_misfits.specs.Texts.{TellsSyntax}
use Rattle.pd_places.specs.FirstLines.{line_count, most_places}
use Rattle.pd_places.specs.Same.{same_text}
use Rattle.pd_places.specs.Funds.{funds_text}
use Rattle.pd_places.specs.Known.{known_text}
use Rattle.pd_places.specs.Counts.{counts_text}

-- ---- a line for each place

-- the places at which a refusal applies
abbrev pub refusal_text : FileData → ScenarioFault → Tables → List ℕ
refusal_text file fault.Duplicate d = same_text (file_spot file fault.Duplicate) d
refusal_text file fault.Floors d = funds_text (file_spot file fault.Floors) d
refusal_text file fault.UnknownName d = known_text (file_spot file fault.UnknownName) d
refusal_text file fault.Limit d = counts_text (file_spot file fault.Limit) d
refusal_text file refusal d = file_text file refusal d

-- the refusals whose rules the top table has, and which need no count of the ports
abbrev pub top_refusals : List ScenarioFault
top_refusals = fault.UnknownKey ∷ fault.WrongType ∷ fault.MissingKey ∷ fault.Range ∷ []

-- the places of the top table at which one of them applies, but for the refusal that is told already
abbrev pub other_text : FileData → ScenarioFault → Tables → ScenarioFault → List ℕ
other_text file refusal d other = if number_of other == number_of refusal then [] else top_text file other d

-- where the ports can't be counted, that is told first, and of the others what is in the top table
abbrev pub counted_text : FileData → Tables → Result ℕ ScenarioFault → List ℕ
counted_text file d (Ok ports) = flat_map (λ refusal. refusal_text file refusal d) refusals
counted_text file d (Err refusal) = refusal_text file refusal d ++ flat_map (other_text file refusal d) top_refusals

-- the least refusal first, then in the order of the file's tables
abbrev pub places_text : FileData → Members → List ℕ
places_text file t = counted_text file (tables_of t) (counted t)

-- ---- twenty of them

-- so many bytes of a text are its first lines, at most so many, or all of them
pub record IsCut (most : ℕ) (text : List ℕ) (cut : ℕ) : Type 0 where
  pub within : cut ≤ length text
  pub few : line_count (take cut text) ≤ most
  pub full : cut < length text → (line_count (take cut text) ≡ most) × (slice_index text (cut - 1) ≡ 10)

unfoldable pub more_line : FrontData → List ℕ
more_line file = line_with file (piece.string (codes ": ") (codes "sentence") (codes "more places") ∷ [])

-- that there are more lines, where there are
abbrev pub more_text : FrontData → Bool → List ℕ
more_text file more = if more then more_line file else []

-- the first lines of a text, and that there are more
abbrev pub IsShort : ℕ → FrontData → List ℕ → List ℕ → Type 0
IsShort most file text said = (cut : ℕ) × IsCut most text cut × (said ≡ take cut text ++ more_text file (nat_lt cut (length text)))

-- ---- a text

-- a file's name, on one line
abbrev pub one_line_byte : ℕ → ℕ
one_line_byte byte = if byte == 10 then 63 else byte

abbrev pub one_line : List ℕ → List ℕ
one_line name = map one_line_byte name

-- the front of all that is told of a file; in an object its name may have line feeds, which are escaped
abbrev pub file_of : Form → List ℕ → FrontData
file_of Words name = front_of_file Words (one_line name)
file_of Json name = front_of_file Json name

-- a file, and lines of its text
abbrev pub file_with : FrontData → LinesData → FileData
file_with file lines = record { front = file; lines = lines }

-- twenty of the places of tables, told with lines of the text
abbrev pub TellsTables : FrontData → List ℕ → Members → List ℕ → Type 0
TellsTables file text t said =
    (lines : LinesData) × AreMarks text lines × IsShort most_places file (places_text (file_with file lines) t) said

-- twenty of the places of the tables that the text is; where it is no TOML, where that begins
abbrev pub TellsPlaces : FrontData → List ℕ → List ℕ → Type 0
TellsPlaces file text said =
    ((t : Members) × IsTextOf text t × TellsTables file text t said) ⊎ TellsSyntax file text said
