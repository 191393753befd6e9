-- In which lines of a scenario file its tables and keys stand, as far as these are found.
use Rattle.std.specs.Prelude.{◌≡◌, ◌⊎◌, ◌≤◌, ◌<◌, ◌^◌, ℕ, ◌-◌, Bool, ◌==◌, ◌&&◌, List, [], codes, drop, length, slice_index, take}
use Rattle.std.specs.Prelude.{Option, None, Some, bytes_eq, if◌then◌else◌, All}
use Rattle.std.specs.List.{find, slice_get}
use Rattle.pd_misfits.specs.declared.lines.Mark.{Mark}
use Rattle.pd_misfits.specs.Texts.{line_at, name_of}

-- The text; the lines that begin with a key or with the head of a table, in its order; of each list where what is behind its heads
-- stands among them; and those that begin with a key of the top table or with the head of a list.
pub record LinesData : Type 0 where
  pub text : List ℕ
  pub marks : List Mark
  pub tops : List Mark
  pub ports : List ℕ
  pub cables : List ℕ
  pub sinks : List ℕ
  pub events : List ℕ

-- so many lines of a table are looked through
abbrev pub most_keys : ℕ
most_keys = 64

-- the line begins with this name, behind blanks and brackets
abbrev pub is_named : List ℕ → List ℕ → Mark → Bool
is_named text name m = bytes_eq (name_of (drop m.at text)) name

-- and it is a key of the table behind whose head it stands
abbrev pub is_key_of : List ℕ → ℕ → List ℕ → Mark → Bool
is_key_of text table name m = m.table == table && is_named text name m

abbrev pub line_in : Option Mark → Option ℕ
line_in None = None
line_in (Some m) = Some m.line

-- of a table behind whose head so many stand: the line of a key, or of the head where no key is asked for
abbrev pub line_behind : LinesData → List ℕ → List ℕ → Option ℕ → Option ℕ
line_behind l table key None = None
line_behind l table [] (Some start) = line_in (find (is_named l.text table) (take 1 (drop (start - 1) l.marks)))
line_behind l table key (Some start) = line_in (find (is_key_of l.text start key) (take most_keys (drop start l.marks)))

-- where what is behind the heads of a list stands
abbrev pub starts_of : LinesData → List ℕ → List ℕ
starts_of l table =
    if bytes_eq table (codes "port") then l.ports
    else if bytes_eq table (codes "cable") then l.cables
    else if bytes_eq table (codes "sink") then l.sinks
    else l.events

-- The line of a key of a table, by the table's number among those of its list, from 1; of its head where the key is empty. The top
-- table has no name.
abbrev pub line_of : LinesData → List ℕ → ℕ → List ℕ → Option ℕ
line_of l [] number key = line_in (find (is_named l.text key) (take most_keys l.tops))
line_of l table number key = line_behind l table key (slice_get (starts_of l table) (number - 1))

-- ---- what is true of them

-- a line begins at this place of the text, and this is its number, from 1
pub record IsMark (text : List ℕ) (m : Mark) : Type 0 where
  pub within : m.at ≤ length text
  pub begins : (m.at ≡ 0) ⊎ (slice_index text (m.at - 1) ≡ 10)
  pub line_is : m.line ≡ line_at text m.at
  pub fits : m.line < 2 ^ 64

-- so is each of them
pub record AreMarks (text : List ℕ) (l : LinesData) : Type 0 where
  pub text_is : l.text ≡ text
  pub marks : All (IsMark text) l.marks
  pub tops : All (IsMark text) l.tops

-- the line of this number begins with the name, behind blanks and brackets
abbrev pub BeginsWithName : List ℕ → ℕ → List ℕ → Type 0
BeginsWithName text number name = (m : Mark) × IsMark text m × (m.line ≡ number) × (name_of (drop m.at text) ≡ name)

-- by which name a table or a key is found
abbrev pub name_sought : List ℕ → List ℕ → List ℕ
name_sought table [] = table
name_sought table key = key

-- Each line that is found is right: it begins with the key that it is of, or with the name of the table.
abbrev pub LinesAreRight : Type 0
LinesAreRight =
    (text : List ℕ) (l : LinesData) (table : List ℕ) (number : ℕ) (key : List ℕ) (n : ℕ) → AreMarks text l
    → line_of l table number key ≡ Some n → BeginsWithName text n (name_sought table key)
