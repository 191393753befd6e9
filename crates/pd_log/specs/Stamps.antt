-- A log's own time, at the front of a line.
use Rattle.std.specs.Prelude.{ℕ, ◌+◌, ◌==◌, ◌&&◌, ◌||◌, not, Bool, false, List, [], ◌∷◌, take, drop, Option, Some, None}
use Rattle.std.specs.Prelude.{option_map, if◌then◌else◌}
use Rattle.std.specs.List.{list_all, position_from}
use Rattle.std.specs.Char.{is_ascii_digit}
use Rattle.pd_log.specs.Parts.{Parts, ◌>>=◌, next}
use Rattle.pd_log.specs.Codes.{or_else}
use Rattle.pd_log.specs.Forms.{behind_head}

-- a point, a colon or a comma
abbrev pub is_mark : ℕ → Bool
is_mark c = c == 46 || (c == 58 || c == 44)

abbrev pub is_of_clock : ℕ → Bool
is_of_clock c = is_ascii_digit c || is_mark c

-- a digit, and then digits with points, colons and commas, as 12.345678 or 00:00:01.234,567
abbrev pub is_clock : List ℕ → Bool
is_clock [] = false
is_clock (c ∷ cs) = is_ascii_digit c && list_all is_of_clock cs

-- such a time that is no number, as the index of an object is one
abbrev pub is_told_apart : List ℕ → Bool
is_told_apart bytes = is_clock bytes && not (list_all is_ascii_digit bytes)

abbrev pub unspaced : List ℕ → List ℕ
unspaced [] = []
unspaced (c ∷ cs) = if c == 32 then unspaced cs else c ∷ cs

-- the bytes before a place, and those behind the byte that stands there
abbrev pub around : List ℕ → ℕ → List ℕ × List ℕ
around bytes place = (take place bytes, drop (place + 1) bytes)

-- the bytes before the first of a kind, and those behind it
abbrev pub cut : ℕ → List ℕ → Option (List ℕ × List ℕ)
cut byte bytes = option_map (around bytes) (position_from (λ other. other == byte) 0 bytes)

-- a time, with what stands behind it
abbrev pub clock_before : List ℕ → List ℕ → Option (List ℕ × List ℕ)
clock_before clock behind = if is_told_apart clock then Some (clock, behind) else None

-- a time in the brackets that a line begins with, as a kernel writes it, [   12.345678], or Zephyr, [00:00:01.234,567]
abbrev pub in_brackets : List ℕ → Option (List ℕ × List ℕ)
in_brackets [] = None
in_brackets (c ∷ cs) = if c == 91 then (do
  found ← cut 93 cs
  clock_before (unspaced found.0) found.1) else None

-- a time that a line begins with, up to a space
abbrev pub bare : List ℕ → Option (List ℕ × List ℕ)
bare line = do
  found ← cut 32 line
  if is_told_apart found.0 then Some found else None

-- a log's own time, and what stands behind it
abbrev pub stamp : List ℕ → Option (List ℕ × List ℕ)
stamp line = or_else (in_brackets line) (bare (unspaced line))

-- the line without that time, where it has one
abbrev pub unstamped : List ℕ → List ℕ
unstamped line = by_stamp line (stamp line)
  where
    by_stamp : List ℕ → Option (List ℕ × List ℕ) → List ℕ
    by_stamp line (Some found) = found.1
    by_stamp line None = line

-- the time of a transcript's line
abbrev pub transcript_time : Parts → Option (List ℕ)
transcript_time ps = do
  rest ← behind_head ps
  found ← next ps
  Some found.0
