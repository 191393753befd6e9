-- Where something is told of: in a scenario file, in one of its tables.
use Rattle.std.specs.Prelude.{ℕ, List, [], ◌∷◌, codes, Option, None, Some}
use Rattle.pd_text.specs.declared.piece.Unit.TheVariants.{Plain}
use Rattle.pd_text.specs.Pieces.{PieceData}
use Rattle.pd_text.specs.Pieces as piece
use Rattle.pd_text.specs.Fronts.{FrontData, front_with, refusal_pieces}
use Rattle.pd_scenario_tables.specs.declared.fault.ScenarioFault.{ScenarioFault}
use Rattle.pd_scenario_tables.specs.Numbers.{number_of}
use Rattle.pd_misfits.specs.Marks.{LinesData, line_of}

-- a file: what is told first of it, and its lines
pub record FileData : Type 0 where
  pub front : FrontData
  pub lines : LinesData

-- a place in it: the refusal, the table, which has no name at the top, its number, and what is told of it
pub record SpotData : Type 0 where
  pub file : FileData
  pub refusal : ScenarioFault
  pub table : List ℕ
  pub number : ℕ
  pub pieces : List PieceData

-- ---- what is told first

-- the file, and a line of it where that is known
abbrev pub line_pieces : Option ℕ → List PieceData
line_pieces None = []
line_pieces (Some line) = piece.number (codes ":") (codes "line") Plain line ∷ []

-- and the number of the refusal
abbrev pub refused_front : FrontData → Option ℕ → ScenarioFault → FrontData
refused_front file line refusal = front_with (front_with file (line_pieces line)) (refusal_pieces (number_of refusal))

-- and the table; the line is that of a key, or of the table's head where the key is empty
unfoldable pub spot_front : SpotData → List ℕ → FrontData
spot_front spot key =
    front_with (refused_front spot.file.front (line_of spot.file.lines spot.table spot.number key) spot.refusal) spot.pieces

-- ---- a place

-- the top table
abbrev pub file_spot : FileData → ScenarioFault → SpotData
file_spot file refusal = record { file = file; refusal = refusal; table = []; number = 0; pieces = [] }

-- a table, and what is told of it
abbrev pub spot_in : SpotData → List ℕ → ℕ → List PieceData → SpotData
spot_in spot table number pieces =
    record { file = spot.file; refusal = spot.refusal; table = table; number = number; pieces = pieces }
