-- The beginnings of tellings, and tellings that begin so.
use Rattle.std.specs.Prelude.{ℕ, List, [], ◌∷◌, ◌++◌, codes}
use Rattle.pd_text.specs.declared.piece.Form.{Form}
use Rattle.pd_text.specs.declared.piece.Unit.TheVariants.{Plain}
use Rattle.pd_text.specs.Pieces.{PieceData, file, number, line_words, string, member_string}
use Rattle.pd_text.specs.Texts.{line_begin, line_end, text_of_all}

-- the form of a telling, and what stands first of it
pub record FrontData : Type 0 where
  pub form : Form
  pub text : List ℕ

-- of a telling of a file
abbrev pub front_of_file : Form → List ℕ → FrontData
front_of_file form name = record { form = form; text = line_begin form ++ text_of_all form (file name ∷ []) }

-- the same, and pieces behind it
abbrev pub front_with : FrontData → List PieceData → FrontData
front_with front pieces = record { form = front.form; text = front.text ++ text_of_all front.form pieces }

-- the line of a telling that begins so and ends with these pieces
unfoldable pub line_with : FrontData → List PieceData → List ℕ
line_with front pieces = front.text ++ (text_of_all front.form pieces ++ line_end front.form)

-- ---- refusals and sentences

-- the number of a refusal
abbrev pub refusal_pieces : ℕ → List PieceData
refusal_pieces refusal = number (codes ": refused ") (codes "refusal") Plain refusal ∷ line_words (codes ": ") ∷ []

-- a sentence, with the word that it is of before it in an object, and what is likelier meant behind it, where these are known
abbrev pub said : List ℕ → List ℕ → List ℕ → List PieceData
said word sentence hint =
    member_string (codes "key") word ∷ string [] (codes "sentence") sentence ∷ string (codes "; hint: ") (codes "hint") hint ∷ []
