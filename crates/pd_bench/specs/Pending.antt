-- A line that hasn't ended yet, and the 258 bytes at most that stand for it.
use Rattle.std.specs.Prelude.{◌≡◌, ℕ, ◌≤◌, ◌⊎◌, false, ◌&&◌, ◌||◌, List, [], ◌∷◌, ◌++◌, length, take, slice_index, ◌==◌, nat_lt}
use Rattle.std.specs.Prelude.{if◌then◌else◌, All}
use Rattle.pd_edit_lines.specs.Grammar.{are_spaces}

-- what stands for the bytes after the first 257: a space for spaces alone, that byte for spaces and then that byte, else x
abbrev pub merged : ℕ → ℕ → ℕ
merged last byte = if last == 32 then byte else 120

-- the kept bytes after one more
abbrev pub kept_after : List ℕ → ℕ → List ℕ
kept_after kept byte = if nat_lt (length kept) 258 then kept ++ byte ∷ [] else take 257 kept ++ merged (slice_index kept 257) byte ∷ []

-- the byte stands for the bytes more and then last
pub record StandsForEnd (more : List ℕ) (last byte : ℕ) : Type 0 where
  pub plain : (are_spaces more && (last == 32)) ≡ (byte == 32)
  pub cut : (are_spaces more && (last == 13 || last == 32)) ≡ (byte == 13 || byte == 32)

-- a line too long to be kept
pub record IsLong (line kept : List ℕ) : Type 0 where
  pub front : List ℕ
  pub more : List ℕ
  pub last : ℕ
  pub byte : ℕ
  pub full : length front ≡ 257
  pub line_is : line ≡ front ++ (more ++ last ∷ [])
  pub kept_is : kept ≡ front ++ byte ∷ []
  pub stands : StandsForEnd more last byte

-- the kept bytes are the line, or stand for it
abbrev pub StandsFor : List ℕ → List ℕ → Type 0
StandsFor line kept = ((kept ≡ line) × (length line ≤ 257)) ⊎ IsLong line kept

-- the line hasn't ended, and these bytes stand for it
pub record IsPending (line kept : List ℕ) : Type 0 where
  pub open_yet : All (λ b. (b == 10) ≡ false) line
  pub stands : StandsFor line kept
