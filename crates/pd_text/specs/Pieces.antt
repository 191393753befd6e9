-- A telling is a list of pieces.
use Rattle.std.specs.Prelude.{ℕ, ℤ, Bool, List, map, Option}
use Rattle.pd_text.specs.declared.piece.Unit.{Unit}
use Rattle.pd_text.specs.declared.piece.ListName.{ListName}
use Rattle.pd_text.specs.declared.piece.Piece.{Piece}
use Rattle.pd_text.specs.declared.piece.Piece.TheVariants as code

-- a name that a list may have: whether it has it, what a line says where it does, and the name
pub record ListNameData : Type 0 where
  pub is_listed : Bool
  pub words : List ℕ
  pub text : List ℕ

-- A piece says something in the line and in the object, or in one of the two.
pub data PieceData : Type 0 where
  -- what kind of telling it is
  kind : List ℕ → PieceData
  -- the words before a number, its key, its unit, and the number
  number : List ℕ → List ℕ → Unit → ℕ → PieceData
  -- what the line says, the key, and the name
  name : List ℕ → List ℕ → List ℕ → PieceData
  -- what the line says where something holds, what where it doesn't, the key, and whether it holds
  flag : List ℕ → List ℕ → List ℕ → Bool → PieceData
  -- the key of a list, and the names that it may have
  names : List ℕ → List ListNameData → PieceData
  -- the name of the file that is told of
  file : List ℕ → PieceData
  -- the words before a text, its key, and the text
  string : List ℕ → List ℕ → List ℕ → PieceData
  -- the words before a whole number, its key, and the number, where there is one
  whole_number : List ℕ → List ℕ → Option ℤ → PieceData
  -- of the line alone
  line_words : List ℕ → PieceData
  line_number : List ℕ → Unit → ℕ → PieceData
  -- of the object alone
  member_number : List ℕ → ℕ → PieceData
  member_string : List ℕ → List ℕ → PieceData
  member_null : List ℕ → PieceData

-- ---- what the pieces of the code are

abbrev pub list_name_of : ListName → ListNameData
list_name_of n = record { is_listed = n.is_listed; words = n.words.now; text = n.name.now }

abbrev pub piece_of : Piece → PieceData
piece_of (code.Kind text) = kind text.now
piece_of (code.Number words key unit n) = number words.now key.now unit n
piece_of (code.Name words key text) = name words.now key.now text.now
piece_of (code.Flag if_so if_not key holds) = flag if_so.now if_not.now key.now holds
piece_of (code.Names key list) = names key.now (map list_name_of list.now)
piece_of (code.File text) = file text.now
piece_of (code.Text words key text) = string words.now key.now text.now
piece_of (code.Whole words key n) = whole_number words.now key.now n
piece_of (code.LineWords words) = line_words words.now
piece_of (code.LineNumber words unit n) = line_number words.now unit n
piece_of (code.MemberNumber key n) = member_number key.now n
piece_of (code.MemberText key text) = member_string key.now text.now
piece_of (code.MemberNull key) = member_null key.now
