-- What the parts of a line give: the codes of a packet, as a transcript of this bench or a decoder lists them.
use Rattle.std.specs.Prelude.{ℕ, ◌==◌, ◌||◌, ◌&&◌, Bool, true, false, List, [], ◌∷◌, ◌++◌, codes, bytes_eq, if◌then◌else◌}
use Rattle.std.specs.Prelude.{Option, Some, None}
use Rattle.std.specs.List.{list_all}
use Rattle.std.specs.Char.{is_ascii_digit}
use Rattle.pd_log.specs.declared.mark.Mark.{Mark}
use Rattle.pd_log.specs.declared.mark.Mark.TheVariants.{Whole, Lost, Damaged}
use Rattle.pd_log.specs.Codes.{code_of}
use Rattle.pd_log.specs.Parts.{Parts, ◌>>=◌, next}

-- a line without parts, a comment, and the heading of a show
abbrev pub is_heading : Parts → Bool
is_heading [] = true
is_heading ([] ∷ ps) = true
is_heading ((c ∷ cs) ∷ ps) = c == 35 || c == 61

-- a word, and what stands behind it
abbrev pub behind_the : List ℕ → Parts → Option Parts
behind_the word ps = do
  found ← next ps
  if bytes_eq found.0 word then Some found.1 else None

abbrev pub is_number : List ℕ → Bool
is_number part = list_all is_ascii_digit part

-- a number, and what stands behind it
abbrev pub behind_number : Parts → Option Parts
behind_number ps = do
  found ← next ps
  if is_number found.0 then Some found.1 else None

-- a number and a word, and what stands behind them
abbrev pub behind_count : List ℕ → Parts → Option Parts
behind_count word ps = do
  rest ← behind_number ps
  behind_the word rest

-- behind refused N
abbrev pub behind_refused : Parts → Option Parts
behind_refused ps = do
  rest ← behind_the (codes "refused") ps
  behind_number rest

-- behind done N edits N refused N shows
abbrev pub behind_done : Parts → Option Parts
behind_done ps = do
  counts ← behind_the (codes "done") ps
  edits ← behind_count (codes "edits") counts
  refused ← behind_count (codes "refused") edits
  behind_count (codes "shows") refused

-- the line ends there
abbrev pub ends : Option Parts → Bool
ends None = false
ends (Some []) = true
ends (Some (p ∷ ps)) = false

-- what a session answers to an edit, and its last line: ok, refused N, and done N edits N refused N shows
abbrev pub is_reply : Parts → Bool
is_reply ps = ends (behind_the (codes "ok") ps) || (ends (behind_refused ps) || ends (behind_done ps))

-- such a line tells nothing
abbrev pub tells_nothing : Parts → Bool
tells_nothing ps = is_heading ps || is_reply ps

abbrev pub is_time : List ℕ → Bool
is_time part = list_all is_ascii_digit part

abbrev pub is_side : List ℕ → Bool
is_side part = bytes_eq part (codes "src") || (bytes_eq part (codes "snk") || bytes_eq part (codes "cbl"))

abbrev pub is_set : List ℕ → Bool
is_set part = bytes_eq part (codes "SOP") || bytes_eq part (codes "SOP'")

-- behind a packet's set: the name of its message and its id
abbrev pub behind_name : Parts → Option Parts
behind_name ps = do
  name ← next ps
  id ← next name.1
  Some id.1

-- behind HR: or a packet's set
abbrev pub behind_set : Parts → Option Parts
behind_set ps = do
  set ← next ps
  if bytes_eq set.0 (codes "HR:") then Some set.1 else if is_set set.0 then behind_name set.1 else None

-- behind the head of a line of a transcript: TIME SIDE HR: or TIME SIDE SET NAME ID:
abbrev pub behind_head : Parts → Option Parts
behind_head ps = do
  time ← next ps
  side ← next time.1
  if is_time time.0 && is_side side.0 then behind_set side.1 else None

-- the parts without that head, where they have one
abbrev pub without_head : Parts → Parts
without_head ps = by_head (behind_head ps)
  where
    by_head : Option Parts → Parts
    by_head (Some rest) = rest
    by_head None = ps

-- what a part says of the codes before it
abbrev pub mark_of : List ℕ → Option Mark
mark_of part =
    if bytes_eq part (codes "lost") then Some Lost else if bytes_eq part (codes "damaged") then Some Damaged else None

-- a mark, and no part behind it
abbrev pub at_end : Option Mark → Parts → Option (List ℕ × Mark)
at_end (Some mark) [] = Some ([], mark)
at_end _ _ = None

-- codes before others
abbrev pub with_codes : List ℕ → Option (List ℕ × Mark) → Option (List ℕ × Mark)
with_codes read (Some more) = Some (read ++ more.0, more.1)
with_codes read None = None

-- a part that is a code stands before those of the others; one that is none is the mark at the end
abbrev pub by_code : List ℕ → Parts → Option ℕ → Option (List ℕ × Mark) → Option (List ℕ × Mark)
by_code part ps (Some code) more = with_codes (code ∷ []) more
by_code part ps None more = at_end (mark_of part) ps

-- the codes of the parts, and the mark at the end
abbrev pub codes_in : Parts → Option (List ℕ × Mark)
codes_in [] = Some ([], Whole)
codes_in (p ∷ ps) = by_code p ps (code_of p) (codes_in ps)

-- one code at the least
abbrev pub some_codes : Option (List ℕ × Mark) → Option (List ℕ × Mark)
some_codes (Some ((code ∷ more), mark)) = Some ((code ∷ more), mark)
some_codes _ = None

-- the codes that the parts of a line give, behind a transcript's head or alone
abbrev pub given_codes : Parts → Option (List ℕ × Mark)
given_codes ps = some_codes (codes_in (without_head ps))
