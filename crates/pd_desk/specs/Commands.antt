-- The desk's own lines: docs/FORMATS.md, "pdlab live".
use Rattle.std.specs.Prelude.{ℕ, ◌-◌, ◌^◌, Bool, true, false, ◌==◌, nat_lt, List, [], ◌∷◌, length, codes}
use Rattle.std.specs.Prelude.{Option, Some, None, option_map, bytes_eq, unwrap_or}
use Rattle.std.specs.Prelude.{if◌then◌else◌}
use Rattle.pd_edit_lines.specs.Words.{words, number, ◌>>=◌}
use Rattle.pd_units.specs.Quantities.{number_in}
use Rattle.pd_units.specs.declared.unit.Unit.TheVariants.{Microseconds}
use Rattle.pd_desk.specs.declared.colon.Colon.{Colon}
use Rattle.pd_desk.specs.declared.colon.Colon.TheVariants as colon
use Rattle.pd_desk.specs.declared.colon.Losses.{Losses}
use Rattle.pd_desk.specs.declared.colon.Saved.{Saved}
use Rattle.pd_desk.specs.declared.colon.Saved.TheVariants as saved

-- a line that begins with a colon is the desk's own
abbrev pub is_colon : List ℕ → Bool
is_colon [] = false
is_colon (byte ∷ more) = byte == 58

-- a command with no word behind it
abbrev pub alone : Colon → List (List ℕ) → Option Colon
alone it [] = Some it
alone it (word ∷ words) = None

-- :save FILE, and the others that write a file; a name without spaces
abbrev pub save_of : Saved → Bool → List (List ℕ) → Option Colon
save_of what is_over (file ∷ []) = Some (colon.Save what is_over)
save_of what is_over _ = None

-- so many, from 1: the last and those before it
abbrev pub undo_by : ℕ → Option Colon
undo_by count = if count == 0 then None else Some (colon.Undo (count - 1))

-- :undo [N]
abbrev pub undo_of : List (List ℕ) → Option Colon
undo_of [] = Some (colon.Undo 0)
undo_of (count ∷ []) = number count >>= undo_by
undo_of _ = None

-- :diff [all]
abbrev pub diff_of : List (List ℕ) → Option Colon
diff_of [] = Some colon.Diff
diff_of (word ∷ []) = if bytes_eq word (codes "all") then Some colon.DiffAll else None
diff_of _ = None

-- :why PORT [AT], a time with a unit or in microseconds
abbrev pub why_of : List (List ℕ) → Option Colon
why_of (port ∷ []) = option_map (λ p. colon.Why p None) (number port)
why_of (port ∷ at ∷ []) = number port >>= (λ p. option_map (λ t. colon.Why p (Some t)) (number_in Microseconds at))
why_of _ = None

-- :show [PORT]
abbrev pub show_of : List (List ℕ) → Option Colon
show_of [] = Some (colon.Show None)
show_of (port ∷ []) = option_map (λ p. colon.Show (Some p)) (number port)
show_of _ = None

-- a word that may be left out: what it is, where the first word is one such, and the words behind it
abbrev pub taken : List (List ℕ) → List (List ℕ) → Option ℕ → Option ℕ × List (List ℕ)
taken all behind None = (None, all)
taken all behind (Some n) = (Some n, behind)

-- a bare number
abbrev pub number_first : List (List ℕ) → Option ℕ × List (List ℕ)
number_first [] = (None, [])
number_first (word ∷ more) = taken (word ∷ more) more (number word)

-- a time with a unit or in microseconds
abbrev pub time_first : List (List ℕ) → Option ℕ × List (List ℕ)
time_first [] = (None, [])
time_first (word ∷ more) = taken (word ∷ more) more (number_in Microseconds word)

-- the word `all`
abbrev pub all_of : List (List ℕ) → Option Bool
all_of [] = Some false
all_of (word ∷ []) = if bytes_eq word (codes "all") then Some true else None
all_of _ = None

-- from the start up to any time, where none is named
abbrev pub losses_by : Option ℕ → Option ℕ → Option ℕ → Bool → Losses
losses_by port from to all = record { port = port; from = unwrap_or from 0; to = unwrap_or to (2 ^ 64 - 1); all = all }

-- :sweep [PORT] [FROM [TO]] [all]: a bare number that stands first is the port
abbrev pub sweep_of : List (List ℕ) → Option Colon
sweep_of ws =
    let port = number_first ws in
    let from = time_first port.1 in
    let to = time_first from.1 in
    option_map (λ all. colon.Sweep (losses_by port.0 from.0 to.0 all)) (all_of to.1)

-- a command that reads a file, as :test FILE
abbrev pub reading : Colon → List (List ℕ) → Option Colon
reading it (file ∷ []) = Some it
reading it _ = None

-- the commands that do what other commands of the program do with the scenario that stands
unfoldable pub asked_run : List ℕ → List (List ℕ) → Option Colon
asked_run word more =
    if bytes_eq word (codes ":show") then show_of more
    else if bytes_eq word (codes ":warn") then alone colon.Warn more
    else if bytes_eq word (codes ":guarantee") then alone colon.Guarantee more
    else if bytes_eq word (codes ":sweep") then sweep_of more
    else if bytes_eq word (codes ":vary") then Some colon.Vary
    else if bytes_eq word (codes ":test") then reading colon.Test more
    else if bytes_eq word (codes ":draw") then save_of saved.Picture false more
    else if bytes_eq word (codes ":draw!") then save_of saved.Picture true more
    else None

-- the commands that write what is edited to a file, with ! in the place of one that is there, and the one that reads it
unfoldable pub asked_save : List ℕ → List (List ℕ) → Option Colon
asked_save word more =
    if bytes_eq word (codes ":save") then save_of saved.Scenario false more
    else if bytes_eq word (codes ":save!") then save_of saved.Scenario true more
    else if bytes_eq word (codes ":save-edits") then save_of saved.Edits false more
    else if bytes_eq word (codes ":save-edits!") then save_of saved.Edits true more
    else if bytes_eq word (codes ":load") then reading colon.Load more
    else asked_run word more

-- what the word behind the colon asks for
unfoldable pub asked : List ℕ → List (List ℕ) → Option Colon
asked word more =
    if bytes_eq word (codes ":help") then alone colon.Help more
    else if bytes_eq word (codes ":list") then alone colon.Listing more
    else if bytes_eq word (codes ":undo") then undo_of more
    else if bytes_eq word (codes ":redo") then alone colon.Redo more
    else if bytes_eq word (codes ":diff") then diff_of more
    else if bytes_eq word (codes ":why") then why_of more
    else if bytes_eq word (codes ":quit") then alone colon.Quit more
    else asked_save word more

abbrev pub asked_by : List (List ℕ) → Option Colon
asked_by [] = None
asked_by (word ∷ more) = asked word more

-- what a line of the desk's own asks for; none where it is no such line, or has more than 256 bytes
abbrev pub colon_of : List ℕ → Option Colon
colon_of line = if nat_lt 256 (length line) then None else asked_by (words line)

abbrev pub quits : Option Colon → Bool
quits (Some colon.Quit) = true
quits _ = false

-- :quit, which ends the session
abbrev pub is_quit : List ℕ → Bool
is_quit line = if is_colon line then quits (colon_of line) else false

-- the second word
abbrev pub second : List (List ℕ) → Option (List ℕ)
second (word ∷ file ∷ more) = Some file
second _ = None

-- of the name of another command, or of what reads a script in other programs, the desk's line that does the same
unfoldable pub meant_run : List ℕ → Option (List ℕ)
meant_run word =
    if bytes_eq word (codes "why") then Some (codes ":why")
    else if bytes_eq word (codes "warn") then Some (codes ":warn")
    else if bytes_eq word (codes "guarantee") then Some (codes ":guarantee")
    else if bytes_eq word (codes "sweep") then Some (codes ":sweep")
    else if bytes_eq word (codes "vary") then Some (codes ":vary SET")
    else if bytes_eq word (codes "test") then Some (codes ":test FILE")
    else if bytes_eq word (codes "draw") then Some (codes ":draw FILE")
    else if bytes_eq word (codes "load") then Some (codes ":load FILE")
    else if bytes_eq word (codes "source") then Some (codes ":load FILE")
    else None

-- Of a word that begins no line of an edit script, the command that is meant: one of these without its colon, or what other
-- programs say for it.
unfoldable pub meant : List ℕ → Option (List ℕ)
meant word =
    if bytes_eq word (codes "quit") then Some (codes ":quit")
    else if bytes_eq word (codes "exit") then Some (codes ":quit")
    else if bytes_eq word (codes "help") then Some (codes ":help")
    else if bytes_eq word (codes "?") then Some (codes ":help")
    else if bytes_eq word (codes "list") then Some (codes ":list")
    else if bytes_eq word (codes "undo") then Some (codes ":undo")
    else if bytes_eq word (codes "redo") then Some (codes ":redo")
    else if bytes_eq word (codes "diff") then Some (codes ":diff")
    else if bytes_eq word (codes "save") then Some (codes ":save FILE")
    else meant_run word
