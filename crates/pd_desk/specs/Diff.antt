-- What of a text isn't in another, line by line.
use Rattle.std.specs.Prelude.{ℕ, Bool, true, false, List, [], ◌∷◌, ◌++◌, bytes_eq, if◌then◌else◌}
use Rattle.std.specs.Str.Lines.{lines}

abbrev pub has_line : List (List ℕ) → List ℕ → Bool
has_line [] line = false
has_line (other ∷ more) line = if bytes_eq other line then true else has_line more line

-- the line behind a sign, where it isn't among the others
unfoldable pub own_line : ℕ → List (List ℕ) → List ℕ → List ℕ
own_line sign others line = if has_line others line then [] else sign ∷ (32 ∷ (line ++ 10 ∷ []))

unfoldable pub own_lines : ℕ → List (List ℕ) → List (List ℕ) → List ℕ
own_lines sign others [] = []
own_lines sign others (line ∷ more) = own_line sign others line ++ own_lines sign others more

-- the lines that were there before and aren't now, each behind `-`, and then the new ones, behind `+`
unfoldable pub diff_text : List ℕ → List ℕ → List ℕ
diff_text before now = own_lines 45 (lines now) (lines before) ++ own_lines 43 (lines before) (lines now)
