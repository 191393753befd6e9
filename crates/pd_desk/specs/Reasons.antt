-- What is said of a refusal, by its number.
use Rattle.std.specs.Prelude.{List, [], ◌++◌, ℕ, codes, Option, Some, None}

-- a sentence as a line; none is none
abbrev pub as_line : Option (List ℕ) → List ℕ
as_line (Some sentence) = sentence ++ codes "\n"
as_line None = []
