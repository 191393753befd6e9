-- The lines of an edit script:
--     insert ID AT PORT KIND      insert ID AT budget MW
--     remove ID      move ID AT      change ID KIND
--     cable NAME PLUG RATING      cable NAME drop
--     sink NAME MAX DEMAND MODE [REVISION]      sink NAME drop
--     caps PORT MV MA [MV MA]..      floor PORT MW      budget MW      end AT
--     show transcript PORT      show contracts      show faults      show margins
-- KIND is attach CABLE SINK, detach, demand MW, lose, damage PLACE MASK, get_source or get_sink.
use Rattle.std.specs.Prelude.{ℕ, Bool, false, ◌&&◌, ◌==◌, ◌||◌, nat_lt, nat_le, List, [], ◌∷◌, ◌++◌, length, codes, Option, Some, None}
use Rattle.std.specs.Prelude.{option_map, ok_or, Result, Ok, Err, bytes_eq, if◌then◌else◌}
use Rattle.std.specs.List.{list_all}
use Rattle.arrayvec.specs.ArrayVec.{ArrayVec}
use Rattle.pd_setup.specs.Events.{KindWord, by_kind}
use Rattle.pd_setup.specs.declared.event.EventKind.TheVariants.{Attach, Demand, Damage}
use Rattle.pd_setup.specs.declared.sink.SinkRevision.{SinkRevision}
use Rattle.pd_setup.specs.declared.sink.SinkRevision.TheVariants.{Revision3}
use Rattle.pd_scenario.specs.Words.{kind_of, plug_of, mode_of}
use Rattle.pd_edit_lines.specs.Keywords.{command_word, show_word, revision_word}
use Rattle.pd_edit_lines.specs.Words.{words, number, name, ◌>>=◌}
use Rattle.pd_edit_lines.specs.declared.fault.EditFault.{EditFault}
use Rattle.pd_edit_lines.specs.declared.fault.EditFault.TheVariants.{Syntax}
use Rattle.pd_edit_lines.specs.declared.keywords.Command.{Command}
use Rattle.pd_edit_lines.specs.declared.keywords.Command.TheVariants as command
use Rattle.pd_edit_lines.specs.declared.keywords.ShowWord.{ShowWord}
use Rattle.pd_edit_lines.specs.declared.keywords.ShowWord.TheVariants as shown
use Rattle.pd_edit_lines.specs.Kinds.{EditKind}
use Rattle.pd_edit_lines.specs.declared.edit.EditHappening.{EditHappening}
use Rattle.pd_edit_lines.specs.declared.edit.EditHappening.TheVariants as happens
use Rattle.pd_edit_lines.specs.declared.edit.WrittenSupply.{WrittenSupply}
use Rattle.pd_edit_lines.specs.declared.edit.Edit.{Edit}
use Rattle.pd_edit_lines.specs.declared.edit.Edit.TheVariants as edits
use Rattle.pd_edit_lines.specs.declared.line.Show.{Show}
use Rattle.pd_edit_lines.specs.declared.line.Show.TheVariants.{Transcript, Contracts, Faults, Margins}
use Rattle.pd_edit_lines.specs.declared.line.Line.{Line}
use Rattle.pd_edit_lines.specs.declared.line.Line.TheVariants as lines

abbrev pub Words : Type 0
Words = List (List ℕ)

-- no word after it
abbrev pub alone : {A : Type 0} → A → Words → Option A
alone a [] = Some a
alone a (w ∷ ws) = None

-- one number, and no word after it
abbrev pub one_number : {A : Type 0} → (ℕ → A) → Words → Option A
one_number f (w ∷ []) = option_map f (number w)
one_number f _ = None

-- two numbers, and no word after them
abbrev pub two_numbers : {A : Type 0} → (ℕ → ℕ → A) → Words → Option A
two_numbers f (v ∷ w ∷ []) = do
  m ← number v
  n ← number w
  Some (f m n)
two_numbers f _ = None

-- CABLE SINK
abbrev pub attach_of : Words → Option EditKind
attach_of (cable ∷ sink ∷ []) = do
  c ← name cable
  s ← name sink
  Some (Attach c s)
attach_of _ = None

-- PLACE MASK
abbrev pub damage_of : Words → Option EditKind
damage_of ws = two_numbers (λ place mask. Damage (record { place = place; mask = mask })) ws

-- what stands after the word of a kind
abbrev pub kind_from : KindWord → Words → Option EditKind
kind_from word ws =
    by_kind (λ cable sink. attach_of ws) (λ power. one_number Demand ws) (λ harm. damage_of ws) (λ plain. alone plain ws) word

-- KIND
abbrev pub kind_at : Words → Option EditKind
kind_at (word ∷ ws) = do
  k ← kind_of word
  kind_from k ws
kind_at [] = None

-- PORT KIND
abbrev pub on_port_of : List ℕ → Words → Option EditHappening
on_port_of port ws = do
  p ← number port
  k ← kind_at ws
  Some (happens.OnPort p k)

-- PORT KIND, or budget MW
abbrev pub happening_of : Words → Option EditHappening
happening_of (word ∷ ws) = if bytes_eq word (codes "budget") then one_number happens.Budget ws else on_port_of word ws
happening_of [] = None

-- ID AT PORT KIND, or ID AT budget MW
abbrev pub insert_of : Words → Option Edit
insert_of (id ∷ at ∷ ws) = do
  i ← number id
  t ← number at
  h ← happening_of ws
  Some (edits.Insert i t h)
insert_of _ = None

-- ID KIND
abbrev pub change_of : Words → Option Edit
change_of (id ∷ ws) = do
  i ← number id
  k ← kind_at ws
  Some (edits.Change i k)
change_of [] = None

-- PLUG RATING
abbrev pub cable_from : List ℕ → List ℕ → Words → Option Edit
cable_from cable plug (rating ∷ []) = do
  p ← plug_of plug
  r ← number rating
  Some (edits.Cable cable p r)
cable_from cable plug _ = None

-- NAME PLUG RATING, or NAME drop
abbrev pub cable_of : Words → Option Edit
cable_of (cable ∷ word ∷ ws) = do
  n ← name cable
  if bytes_eq word (codes "drop") then alone (edits.DropCable n) ws else cable_from n word ws
cable_of _ = None

-- the revision of a sink: the third where no word says so
abbrev pub revision_of : Words → Option SinkRevision
revision_of [] = Some Revision3
revision_of (word ∷ []) = revision_word word
revision_of _ = None

-- MAX DEMAND MODE [REVISION]
abbrev pub sink_from : List ℕ → List ℕ → Words → Option Edit
sink_from sink max (demand ∷ mode ∷ ws) = do
  x ← number max
  d ← number demand
  m ← mode_of mode
  r ← revision_of ws
  Some (edits.Sink sink x d m r)
sink_from sink max _ = None

-- NAME MAX DEMAND MODE [REVISION], or NAME drop
abbrev pub sink_of : Words → Option Edit
sink_of (sink ∷ word ∷ ws) = do
  n ← name sink
  if bytes_eq word (codes "drop") then alone (edits.DropSink n) ws else sink_from n word ws
sink_of _ = None

-- [MV MA]..
abbrev pub supplies_of : Words → Option (List WrittenSupply)
supplies_of [] = Some []
supplies_of (mv ∷ []) = None
supplies_of (mv ∷ ma ∷ ws) = do
  v ← number mv
  a ← number ma
  supplies ← supplies_of ws
  Some (record { mv = v; ma = a } ∷ supplies)

-- one to seven of them
abbrev pub few_supplies : List WrittenSupply → Option (ArrayVec WrittenSupply)
few_supplies supplies = if nat_le 1 (length supplies) && nat_le (length supplies) 7 then Some (record { items = supplies }) else None

-- those that were read before, and the others
abbrev pub with_supplies : List WrittenSupply → Words → Option (ArrayVec WrittenSupply)
with_supplies read ws = do
  supplies ← supplies_of ws
  few_supplies (read ++ supplies)

-- PORT MV MA [MV MA]..
abbrev pub caps_of : Words → Option Edit
caps_of (port ∷ ws) = do
  p ← number port
  supplies ← with_supplies [] ws
  Some (edits.Caps p supplies)
caps_of [] = None

-- what stands after `show` and another word
abbrev pub show_from : ShowWord → Words → Option Show
show_from shown.Transcript ws = one_number Transcript ws
show_from shown.Contracts ws = alone Contracts ws
show_from shown.Faults ws = alone Faults ws
show_from shown.Margins ws = alone Margins ws

abbrev pub show_of : Words → Option Show
show_of (word ∷ ws) = do
  k ← show_word word
  show_from k ws
show_of [] = None

-- what stands after the word of a command
abbrev pub command_from : Command → Words → Option Line
command_from command.Insert ws = option_map lines.Edit (insert_of ws)
command_from command.Remove ws = option_map lines.Edit (one_number edits.Remove ws)
command_from command.Move ws = option_map lines.Edit (two_numbers edits.Move ws)
command_from command.Change ws = option_map lines.Edit (change_of ws)
command_from command.Cable ws = option_map lines.Edit (cable_of ws)
command_from command.Sink ws = option_map lines.Edit (sink_of ws)
command_from command.Caps ws = option_map lines.Edit (caps_of ws)
command_from command.Floor ws = option_map lines.Edit (two_numbers edits.Floor ws)
command_from command.Budget ws = option_map lines.Edit (one_number edits.Budget ws)
command_from command.End ws = option_map lines.Edit (one_number edits.End ws)
command_from command.Show ws = option_map lines.Show (show_of ws)

-- a whole line
abbrev pub command_of : Words → Option Line
command_of (word ∷ ws) = do
  c ← command_word word
  command_from c ws
command_of [] = None

-- a line whose first byte is `#`
abbrev pub is_comment : List ℕ → Bool
is_comment [] = false
is_comment (c ∷ cs) = c == 35

-- spaces alone, or nothing
abbrev pub are_spaces : List ℕ → Bool
are_spaces bytes = list_all (λ c. c == 32) bytes

-- What a line is: comments and spaces are skipped; any other line of more than 256 bytes is none, nor is one that
-- isn't a command.
abbrev pub line_of : List ℕ → Result Line EditFault
line_of bytes =
    if is_comment bytes || are_spaces bytes then Ok lines.Skip
    else if nat_lt 256 (length bytes) then Err Syntax
    else ok_or (command_of (words bytes)) Syntax
