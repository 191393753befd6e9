-- What a reader has left, after one byte of it.
use Rattle.std.specs.Prelude.{ℕ, List, [], ◌∷◌, Option, Some, None}
use Rattle.std.specs.Io.KnownBytes.{Consumes, IsAtEnd}

-- the next byte is given, or there is none any more
abbrev pub GivesByte : Option (List ℕ) → Option (List ℕ) → Option ℕ → Type 0
GivesByte left left' None = Consumes left left' [] × IsAtEnd left'
GivesByte left left' (Some byte) = Consumes left left' (byte ∷ [])
