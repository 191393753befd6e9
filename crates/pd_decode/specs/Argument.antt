-- Codes as a user gives them: this product's own form.
use Rattle.std.specs.Prelude.{◌≡◌, ◌==◌, ◌<◌, ℕ, List, map}
use Rattle.std.specs.List.{slice_split, AllByRecursion}
use Rattle.std.specs.Char.{to_ascii_uppercase}
use Rattle.pd_symbols.specs.Hex.{hex_digits}

-- the parts of a text between single spaces, in upper case
abbrev pub upper_parts : List ℕ → List (List ℕ)
upper_parts text = map (map to_ascii_uppercase) (slice_split (λ byte. byte == 32) text)

-- The text gives these codes: each part is one, in two hexadecimal digits. There is a part at the least, and it is empty
-- where nothing stands before, between or after spaces.
pub record Gives (text codes : List ℕ) : Type 0 where
  pub bytes : AllByRecursion (λ code. code < 256) codes
  pub parts : upper_parts text ≡ map (hex_digits 2) codes
