-- What is told of the text of a scenario file that is refused.
use Rattle.std.specs.Prelude.{◌≡◌, ◌⊎◌, ◌<◌, ℕ, ◌+◌, ◌==◌, Bool, ◌||◌, not, List, [], ◌∷◌, ◌++◌, codes, decimal, drop, filter}
use Rattle.std.specs.Prelude.{length, take, unwrap_or}
use Rattle.std.specs.List.{position_from}
use Rattle.pd_text.specs.declared.piece.Unit.TheVariants.{Plain}
use Rattle.pd_text.specs.Pieces as piece
use Rattle.pd_text.specs.Fronts.{FrontData, front_with, line_with, refusal_pieces, said}
use Rattle.toml.specs.Data.{Members}
use Rattle.toml.specs.Errors.{IsMemory, IsWithin, span_start}
use Rattle.toml.specs.declared.de.error.Error.{Error}
use Rattle.pd_scenario_text.specs.Reading.{IsTextOf}
use Rattle.pd_misfits.specs.Values.{quoted}

abbrev pub ends_line : ℕ → Bool
ends_line byte = byte == 10

-- the number of the line in which a place of a text is, from 1
abbrev pub line_at : List ℕ → ℕ → ℕ
line_at text at = 1 + length (filter ends_line (take at text))

-- the file, a line of it, and the number of the refusal
unfoldable pub syntax_front : FrontData → ℕ → FrontData
syntax_front file number = front_with file (piece.number (codes ":") (codes "line") Plain number ∷ refusal_pieces 1)

-- ---- where a key stood before that stands twice

-- before a name may stand blanks and brackets; a blank, a point, `=`, a bracket or the line's end ends it
abbrev pub is_before : ℕ → Bool
is_before byte = byte == 9 || (byte == 32 || byte == 91)

abbrev pub is_first : ℕ → Bool
is_first byte = not (is_before byte)

abbrev pub ends_name : ℕ → Bool
ends_name byte = byte == 9 || (byte == 10 || (byte == 13 || (byte == 32 || (byte == 46 || (byte == 61 || byte == 93)))))

-- up to the first byte that passes a test, all where none does
abbrev pub front_to : (ℕ → Bool) → List ℕ → ℕ
front_to test bytes = unwrap_or (position_from test 0 bytes) (length bytes)

abbrev pub without_front : List ℕ → List ℕ
without_front bytes = drop (front_to is_first bytes) bytes

-- the name that stands first
unfoldable pub name_of : List ℕ → List ℕ
name_of bytes = take (front_to ends_name (without_front bytes)) (without_front bytes)

unfoldable pub earlier_text : List ℕ → ℕ → List ℕ
earlier_text name number = quoted name ++ (codes " stands in line " ++ (decimal number ++ codes " already"))

-- the name that stands first at a place stands first at one before it, too, and that is told by its line
pub record StandsEarlier (text : List ℕ) (start : ℕ) (hint : List ℕ) : Type 0 where
  pub at : ℕ
  pub before : at < start
  pub there : name_of (drop at text) ≡ name_of (drop start text)
  pub hint_is : hint ≡ earlier_text (name_of (drop start text)) (line_at text at)

-- nothing else is told
abbrev pub IsEarlier : List ℕ → ℕ → List ℕ → Type 0
IsEarlier text start hint = (hint ≡ []) ⊎ StandsEarlier text start hint

-- ---- a text that is no TOML

-- what is said of an error of the TOML library in a text: the line in which it begins, and words; and of a key that stands there in
-- which line it stands before, where that is told
pub record TellsError (file : FrontData) (text : List ℕ) (e : Error) (told : List ℕ) : Type 0 where
  pub message : List ℕ
  pub hint : List ℕ
  pub earlier : IsEarlier text (span_start e) hint
  pub said_is : told ≡ line_with (syntax_front file (line_at text (span_start e))) (said [] message hint)

-- a text that is no TOML is told by an error of the library, of a place in it
abbrev pub TellsSyntax : FrontData → List ℕ → List ℕ → Type 0
TellsSyntax file text said =
    ((t : Members) → IsTextOf text t → ⊥) × (e : Error) × (¬ IsMemory e) × IsWithin text e × TellsError file text e said
