-- Pieces of a JSON text. No word that is written here needs an escape.
use Rattle.std.specs.Prelude.{ℕ, List, [], ◌∷◌, ◌++◌, codes, decimal}
use Rattle.std.specs.List.{flat_map}

-- a word in quotation marks
unfoldable pub quoted : List ℕ → List ℕ
quoted word = codes "\"" ++ (word ++ codes "\"")

unfoldable pub next_quoted : List ℕ → List ℕ
next_quoted word = codes ", " ++ quoted word

-- words with commas between
abbrev pub quoted_words : List (List ℕ) → List ℕ
quoted_words [] = []
quoted_words (word ∷ words) = quoted word ++ flat_map next_quoted words

unfoldable pub next_decimal : ℕ → List ℕ
next_decimal number = codes ", " ++ decimal number

-- numbers with commas between
abbrev pub decimals : List ℕ → List ℕ
decimals [] = []
decimals (number ∷ numbers) = decimal number ++ flat_map next_decimal numbers
