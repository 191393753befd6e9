-- What the desk writes for the lines that it reads: a session's answers, and those to its own lines.
use Rattle.std.specs.Prelude.{◌≡◌, ◌≢◌, ◌⊎◌, ◌<◌, ◌==◌, ℕ, zero, suc, Bool, true, false, List, [], ◌∷◌, ◌++◌, length, codes}
use Rattle.std.specs.Prelude.{Option, Some, None, Result, Ok, Err}
use Rattle.std.specs.Str.Lines.{lines}
use Rattle.pd_scenario.specs.Scenarios.{ScenarioData}
use Rattle.pd_scenario.specs.Plans.{plan_of}
use Rattle.pd_scene.specs.Script.{is_any_refused}
use Rattle.pd_scenario_text.specs.Reading.{Reads}
use Rattle.pd_save.specs.Files.{ReadsOtherwise, file_text}
use Rattle.pd_save.specs.EditLines.{Lists}
use Rattle.pd_text.specs.declared.piece.Form.TheVariants.{Words}
use Rattle.pd_why.specs.Answers.{TellsWhy}
use Rattle.pd_edit_lines.specs.Grammar.{line_of}
use Rattle.pd_edit_lines.specs.Words.{words}
use Rattle.pd_edit_lines.specs.declared.line.Line.{Line}
use Rattle.pd_edit_lines.specs.declared.line.Line.TheVariants as lines_read
use Rattle.pd_edit_lines.specs.Numbers.{number_of}
use Rattle.pd_edit_lines.specs.declared.fault.EditFault.{EditFault}
use Rattle.pd_bench.specs.declared.tally.Tally.{Tally}
use Rattle.pd_bench.specs.declared.tally.Outcome.{Outcome}
use Rattle.pd_bench.specs.declared.tally.Outcome.TheVariants.{Skipped, Accepted, Refused, Shown}
use Rattle.pd_bench.specs.Session.{Reply, counted, no_lines, ok_text, refused_text}
use Rattle.pd_desk.specs.declared.colon.Colon.{Colon}
use Rattle.pd_desk.specs.declared.colon.Colon.TheVariants as colon
use Rattle.pd_desk.specs.declared.colon.Losses.{Losses}
use Rattle.pd_desk.specs.declared.colon.Saved.{Saved}
use Rattle.pd_desk.specs.declared.colon.Saved.TheVariants as saved
use Rattle.pd_desk.specs.Commands.{is_colon, colon_of, second}
use Rattle.pd_desk.specs.Diff.{diff_text}
use Rattle.pd_desk.specs.Reports.{TellsDiff}
use Rattle.pd_desk.specs.LineReasons.{reasons_text}
use Rattle.pd_desk.specs.Loading.{has_head, refusals_text}
use Rattle.pd_hints.specs.Reasons.{reason_of}
use Rattle.pd_desk.specs.Help.{help_text}
use Rattle.pd_desk.specs.History.{NotesData, StepData, no_notes, noted, notes_data, script_text}
use Rattle.pd_desk.specs.Reasons.{as_line}
use Rattle.pd_desk.specs.OwnFaults.{own_sentence}
use Rattle.pd_desk.specs.Shelf.{Holds, IsNotPut, IsPut, IsFree, IsTaken, Shelved}
use Rattle.pd_desk.specs.Tellings.{Draws, TellsGuarantee, TellsShow, TellsSweep, TellsTests, TellsVaried, TellsWarned, TriesNone}
use Rattle.pd_desk.specs.Varying.{MissesAsked, MissesPort, RefusesVaried, varied_of}
use Rattle.pd_desk.specs.declared.own.OwnFault.{OwnFault}
use Rattle.pd_desk.specs.declared.own.OwnFault.TheVariants.{Unknown, NoEdit, FewEdits, NoRedo, NoSuchPort, NoPacket}
use Rattle.pd_desk.specs.declared.own.OwnFault.TheVariants.{Differs, Stands, NotSaved, NotRead, NotLoaded, NoScript, Memory}

-- What the desk has come to: the scenario that stood first, the one that stands, and what is noted of the edits between; the
-- number of the edit that led to it, and of the one after which it was saved last; and the counts. An edit's number is how many
-- were accepted up to it, and none has led to the first.
pub record Standing : Type 0 where
  pub first : ScenarioData
  pub scenario : ScenarioData
  pub number : ℕ
  pub saved : ℕ
  pub notes : NotesData
  pub tally : Tally

-- the same, with what is known of the shelf then
pub record WithShelf : Type 0 where
  pub desk : Standing
  pub shelf : Shelved

abbrev pub with_shelf : Standing → Shelved → WithShelf
with_shelf d shelf = record { desk = d; shelf = shelf }

abbrev pub at_first : ScenarioData → Shelved → WithShelf
at_first s shelf =
    with_shelf (record { first = s; scenario = s; number = 0; saved = 0; notes = no_notes; tally = no_lines }) shelf

-- what stands was saved so
abbrev pub is_saved : Standing → Bool
is_saved d = d.number == d.saved

-- ---- a line of a session

-- nothing is noted
abbrev pub KeepsNotes : Standing → Standing → Type 0
KeepsNotes d d' = (d'.first ≡ d.first) × (d'.number ≡ d.number) × (d'.saved ≡ d.saved) × (d'.notes ≡ d.notes)

abbrev pub step_of : Standing → List ℕ → StepData
step_of d line = record { scenario = d.scenario; number = d.number; line = line }

-- An accepted edit is noted, and what was taken back can't be made again. No other line is noted.
abbrev pub TakesNote : Outcome → Standing → List ℕ → Standing → Type 0
TakesNote Accepted d line d' =
    (d'.first ≡ d.first) × (d'.number ≡ d'.tally.edits) × (d'.saved ≡ d.saved) × (d'.notes ≡ noted d.notes (step_of d line) [])
TakesNote Skipped d line d' = KeepsNotes d d'
TakesNote Refused d line d' = KeepsNotes d d'
TakesNote Shown d line d' = KeepsNotes d d'

-- the session's reply to what a line says, and what becomes of the line
abbrev pub Becomes : ℕ → Standing → List ℕ → Result Line EditFault → Outcome → List ℕ → Standing → Type 0
Becomes n d line r outcome reply d' =
    Reply n d.scenario r reply d'.scenario outcome × (d'.tally ≡ counted d.tally outcome) × TakesNote outcome d line d'

-- the fault of a refused line, none of any other
abbrev pub IsFaultOf : Option EditFault → Outcome → List ℕ → Type 0
IsFaultOf None outcome reply = outcome ≢ Refused
IsFaultOf (Some fault) outcome reply = (outcome ≡ Refused) × (reply ≡ refused_text (number_of fault))

-- What is told beside a refusal: why the line is refused, or else the sentence for its number. So it is for want of memory.
abbrev pub TellsWhyNot : List ℕ → List ℕ → List ℕ → Type 0
TellsWhyNot reasons reply told =
    ((told ≡ reasons) × (reasons ≢ []))
    ⊎ ((fault : EditFault) × (reply ≡ refused_text (number_of fault)) × (told ≡ as_line (reason_of (number_of fault))))

-- Beside another answer nothing is told.
abbrev pub LineTells : Outcome → List ℕ → List ℕ → List ℕ → Type 0
LineTells Refused reasons reply told = TellsWhyNot reasons reply told
LineTells Skipped reasons reply told = told ≡ []
LineTells Accepted reasons reply told = told ≡ []
LineTells Shown reasons reply told = told ≡ []

abbrev pub ToldReply : ℕ → Standing → List ℕ → List ℕ → List ℕ → Standing → Type 0
ToldReply n d line reply told d' = (outcome : Outcome) × Becomes n d line (line_of line) outcome reply d'
    × LineTells outcome (reasons_text n d.scenario line) reply told

-- ---- a script that is loaded

-- An edit of it becomes what it does where it is typed and accepted. Comments are passed over, and so are shows.
abbrev pub TakesIn : ℕ → Standing → List ℕ → Result Line EditFault → Standing → Type 0
TakesIn n d line (Ok lines_read.Skip) d' = d' ≡ d
TakesIn n d line (Ok (lines_read.Edit edit)) d' = Becomes n d line (Ok (lines_read.Edit edit)) Accepted ok_text d'
TakesIn n d line (Ok (lines_read.Show show)) d' = d' ≡ d
TakesIn n d line (Err fault) d' = ⊥

-- its lines, one after the other
abbrev pub TakesAll : ℕ → Standing → List (List ℕ) → Standing → Type 0
TakesAll n d [] d' = d' ≡ d
TakesAll n d (line ∷ more) d' = (next : Standing) × TakesIn n d line (line_of line) next × TakesAll n next more d'

-- ---- a line of the desk's own

-- The last edit is taken back: the scenario before it stands.
pub record StepsBack (d d' : Standing) : Type 0 where
  pub front : List StepData
  pub back : StepData
  pub earlier_are : d.notes.earlier ≡ front ++ back ∷ []
  pub after_is : d'
      ≡ record {
        first = d.first;
        scenario = back.scenario;
        number = back.number;
        saved = d.saved;
        notes = notes_data d.notes.older front (d.notes.later ++ step_of d back.line ∷ []);
        tally = d.tally;
      }

-- so many are, one after the other
abbrev pub Back : ℕ → Standing → Standing → Type 0
Back zero d d' = d' ≡ d
Back (suc count) d d' = (mid : Standing) × Back count d mid × StepsBack mid d'

-- The edit that was taken back last is made again: the scenario after it stands.
pub record StepsForward (d d' : Standing) : Type 0 where
  pub front : List StepData
  pub next : StepData
  pub later_are : d.notes.later ≡ front ++ next ∷ []
  pub after_is : d'
      ≡ record {
        first = d.first;
        scenario = next.scenario;
        number = next.number;
        saved = d.saved;
        notes = noted d.notes (step_of d next.line) front;
        tally = d.tally;
      }

-- behind a head, which lines of the scenario are others
pub record TellsLines (head : List ℕ) (before now : ScenarioData) (text : List ℕ) : Type 0 where
  pub listed : List ℕ
  pub listed_now : List ℕ
  pub lists : Lists before listed
  pub lists_now : Lists now listed_now
  pub text_is : text ≡ head ++ diff_text listed listed_now

-- what the last accepted edit that can be taken back changed
pub record TellsChanges (d : Standing) (text : List ℕ) : Type 0 where
  pub front : List StepData
  pub last : StepData
  pub earlier_are : d.notes.earlier ≡ front ++ last ∷ []
  pub diff : List ℕ
  pub tells : TellsDiff last.scenario d.scenario diff
  pub text_is : text ≡ codes "= diff\n" ++ diff

-- what all edits changed
abbrev pub TellsAll : Standing → List ℕ → Type 0
TellsAll d text = (diff : List ℕ) × TellsDiff d.first d.scenario diff × (text ≡ codes "= diff\n" ++ diff)

abbrev pub saved_text : List ℕ → List ℕ
saved_text file = codes "saved " ++ (file ++ codes "\n")

-- nothing has changed
abbrev pub IsSame : WithShelf → WithShelf → Type 0
IsSame d d' = (d'.desk ≡ d.desk) × (d'.shelf ≡ d.shelf)

-- what is written to the file
abbrev pub IsSavedAs : Saved → Standing → List ℕ → Type 0
IsSavedAs saved.Scenario d text = text ≡ file_text d.scenario
IsSavedAs saved.Edits d text = text ≡ script_text d.notes
IsSavedAs saved.Picture d text = Draws d.scenario text

-- the text of a scenario reads back as that scenario
abbrev pub ReadsBack : ℕ → Saved → ScenarioData → Type 0
ReadsBack n saved.Scenario s = Reads n (file_text s) (Ok s)
ReadsBack n saved.Edits s = Unit {0}
ReadsBack n saved.Picture s = Unit {0}

-- what stands is saved now
abbrev pub saved_now : Standing → Standing
saved_now d = record {
  first = d.first;
  scenario = d.scenario;
  number = d.number;
  saved = d.number;
  notes = d.notes;
  tally = d.tally;
}

-- a picture saves nothing of it
abbrev pub as_saved : Saved → Standing → Standing
as_saved saved.Scenario d = saved_now d
as_saved saved.Edits d = saved_now d
as_saved saved.Picture d = d

-- the text was put on the shelf
abbrev pub Saves : ℕ → WithShelf → Saved → Bool → Option (List ℕ) → List ℕ → WithShelf → Type 0
Saves n d what is_over None text d' = ⊥
Saves n d what is_over (Some file) text d' =
    (held : List ℕ) × IsSavedAs what d.desk held × ReadsBack n what d.desk.scenario × (text ≡ saved_text file)
    × IsPut d.shelf d'.shelf file held × (is_over ≡ false → IsFree d.shelf.kept file) × (d'.desk ≡ as_saved what d.desk)

-- what a test script comes to that stands on the shelf
abbrev pub TellsTested : ℕ → WithShelf → Option (List ℕ) → List ℕ → Type 0
TellsTested n d None text = ⊥
TellsTested n d (Some file) text =
    (script : List ℕ) × Holds d.shelf.kept file script × TellsTests n d.desk.scenario file script text

-- All edits were made of a script that stands on the shelf, of which no line is refused.
abbrev pub Loads : ℕ → WithShelf → Option (List ℕ) → List ℕ → WithShelf → Type 0
Loads n d None text d' = ⊥
Loads n d (Some file) text d' =
    (script : List ℕ) × Holds d.shelf.kept file script × (is_any_refused n d.desk.scenario (lines script) ≡ false)
    × TakesAll n d.desk (lines script) d'.desk × TellsLines (codes "= load\n") d.desk.scenario d'.desk.scenario text
    × (d'.shelf ≡ d.shelf)

-- the file that a line names
abbrev pub file_in : List ℕ → Option (List ℕ)
file_in line = second (words line)

-- what is told for such a line, where nothing fails
abbrev pub Tells : ℕ → WithShelf → Option Colon → List ℕ → List ℕ → WithShelf → Type 0
Tells n d None line text d' = ⊥
Tells n d (Some colon.Help) line text d' = (text ≡ help_text) × IsSame d d'
Tells n d (Some colon.Listing) line text d' = Lists d.desk.scenario text × IsSame d d'
Tells n d (Some (colon.Undo before)) line text d' =
    Back (suc before) d.desk d'.desk × TellsLines (codes "= undo\n") d.desk.scenario d'.desk.scenario text × (d'.shelf ≡ d.shelf)
Tells n d (Some colon.Redo) line text d' =
    StepsForward d.desk d'.desk × TellsLines (codes "= redo\n") d.desk.scenario d'.desk.scenario text × (d'.shelf ≡ d.shelf)
Tells n d (Some colon.Diff) line text d' = TellsChanges d.desk text × IsSame d d'
Tells n d (Some colon.DiffAll) line text d' = TellsAll d.desk text × IsSame d d'
Tells n d (Some (colon.Save what is_over)) line text d' = Saves n d what is_over (file_in line) text d'
Tells n d (Some (colon.Why port to)) line text d' =
    TellsWhy Words (plan_of d.desk.scenario) (record { port = port; to = to }) [] text × IsSame d d'
Tells n d (Some (colon.Show port)) line text d' = TellsShow d.desk.scenario port text × IsSame d d'
Tells n d (Some colon.Warn) line text d' = TellsWarned n d.desk.scenario text × IsSame d d'
Tells n d (Some colon.Guarantee) line text d' = TellsGuarantee d.desk.scenario text × IsSame d d'
Tells n d (Some (colon.Sweep losses)) line text d' = TellsSweep n d.desk.scenario losses text × IsSame d d'
Tells n d (Some colon.Vary) line text d' = TellsVaried n d.desk.scenario line text × IsSame d d'
Tells n d (Some colon.Test) line text d' = TellsTested n d (file_in line) text × IsSame d d'
Tells n d (Some colon.Load) line text d' = Loads n d (file_in line) text d'
Tells n d (Some colon.Quit) line text d' = (text ≡ []) × IsSame d d'

-- why none of an edit's changes are told
abbrev pub FailsEdit : NotesData → OwnFault → Type 0
FailsEdit notes fault = ((fault ≡ NoEdit) × (notes.earlier ≡ [])) ⊎ (fault ≡ Memory)

-- why edits aren't taken back: there are none, or fewer
abbrev pub FailsUndo : NotesData → ℕ → OwnFault → Type 0
FailsUndo notes count fault =
    FailsEdit notes fault ⊎ ((fault ≡ FewEdits (length notes.earlier)) × (length notes.earlier < count))

-- why no edit is made again
abbrev pub FailsRedo : NotesData → OwnFault → Type 0
FailsRedo notes fault = ((fault ≡ NoRedo) × (notes.later ≡ [])) ⊎ (fault ≡ Memory)

-- why nothing is put on the shelf: there was no name, no text that reads back, or no memory
abbrev pub FailsBefore : ℕ → ScenarioData → Saved → Option (List ℕ) → OwnFault → Type 0
FailsBefore n s what file fault =
    ((fault ≡ Unknown) × (file ≡ None))
    ⊎ (((fault ≡ Differs) × (what ≡ saved.Scenario) × ReadsOtherwise n (file_text s) s) ⊎ (fault ≡ Memory))

-- something stands there under that name, and isn't to be replaced
abbrev pub StandsThere : Option (List (List ℕ × List ℕ)) → Bool → Option (List ℕ) → Type 0
StandsThere kept is_over None = ⊥
StandsThere kept is_over (Some file) = (is_over ≡ false) × IsTaken kept file

-- why nothing is saved: the shelf didn't take the text, or it wasn't to be put there
abbrev pub FailsSave : ℕ → ScenarioData → Saved → Bool → Option (List ℕ) → OwnFault → Shelved → Shelved → Type 0
FailsSave n s what is_over file fault shelf shelf' =
    ((fault ≡ NotSaved) × IsNotPut shelf shelf')
    ⊎ ((FailsBefore n s what file fault ⊎ ((fault ≡ Stands) × StandsThere shelf.kept is_over file)) × (shelf' ≡ shelf))

-- why it isn't told what bounds a port
abbrev pub FailsWhy : ℕ → ℕ → OwnFault → Type 0
FailsWhy n port fault = ((fault ≡ NoSuchPort) × ((port < 1) ⊎ (n < port))) ⊎ (fault ≡ Memory)

-- why the transcript isn't told
abbrev pub FailsShow : ℕ → Option ℕ → OwnFault → Type 0
FailsShow n None fault = fault ≡ Memory
FailsShow n (Some port) fault = FailsWhy n port fault

-- why no packets are lost: there is no such port, none is tried, or there is no memory
abbrev pub FailsSweep : ℕ → ScenarioData → Losses → OwnFault → Type 0
FailsSweep n s losses fault =
    ((fault ≡ NoSuchPort) × MissesPort n losses.port) ⊎ (((fault ≡ NoPacket) × TriesNone n s losses) ⊎ (fault ≡ Memory))

-- why no values are tried, where the line asks for some: there is no such port, or no memory
abbrev pub FailsVary : ℕ → List ℕ → OwnFault → Type 0
FailsVary n line fault = ((fault ≡ NoSuchPort) × MissesAsked n (varied_of line)) ⊎ (fault ≡ Memory)

-- why no expectations are held against the run: there was no name, no file that can be read, or no memory
abbrev pub FailsTest : Option (List ℕ) → OwnFault → Type 0
FailsTest file fault = ((fault ≡ Unknown) × (file ≡ None)) ⊎ ((fault ≡ NotRead) ⊎ (fault ≡ Memory))

-- a scenario stands there under that name
abbrev pub HoldsScenario : Option (List (List ℕ × List ℕ)) → Option (List ℕ) → Type 0
HoldsScenario kept None = ⊥
HoldsScenario kept (Some file) = (script : List ℕ) × Holds kept file script × (has_head (lines script) ≡ true)

-- why no edits are made of a script: there was no name, no file that can be read, a scenario in its place, or no memory
abbrev pub FailsLoad : Option (List (List ℕ × List ℕ)) → Option (List ℕ) → OwnFault → Type 0
FailsLoad kept file fault =
    ((fault ≡ Unknown) × (file ≡ None)) ⊎ ((fault ≡ NotLoaded) ⊎ (((fault ≡ NoScript) × HoldsScenario kept file) ⊎ (fault ≡ Memory)))

-- why such a line does nothing: all is as it was, but that a text which the shelf didn't take is counted there
abbrev pub Fails : ℕ → WithShelf → Option Colon → List ℕ → OwnFault → WithShelf → Type 0
Fails n d None line fault d' = (fault ≡ Unknown) × IsSame d d'
Fails n d (Some colon.Help) line fault d' = (fault ≡ Memory) × IsSame d d'
Fails n d (Some colon.Listing) line fault d' = (fault ≡ Memory) × IsSame d d'
Fails n d (Some (colon.Undo before)) line fault d' = FailsUndo d.desk.notes (suc before) fault × IsSame d d'
Fails n d (Some colon.Redo) line fault d' = FailsRedo d.desk.notes fault × IsSame d d'
Fails n d (Some colon.Diff) line fault d' = FailsEdit d.desk.notes fault × IsSame d d'
Fails n d (Some colon.DiffAll) line fault d' = (fault ≡ Memory) × IsSame d d'
Fails n d (Some (colon.Save what is_over)) line fault d' =
    FailsSave n d.desk.scenario what is_over (file_in line) fault d.shelf d'.shelf × (d'.desk ≡ d.desk)
Fails n d (Some (colon.Why port to)) line fault d' = FailsWhy n port fault × IsSame d d'
Fails n d (Some (colon.Show port)) line fault d' = FailsShow n port fault × IsSame d d'
Fails n d (Some colon.Warn) line fault d' = (fault ≡ Memory) × IsSame d d'
Fails n d (Some colon.Guarantee) line fault d' = (fault ≡ Memory) × IsSame d d'
Fails n d (Some (colon.Sweep losses)) line fault d' = FailsSweep n d.desk.scenario losses fault × IsSame d d'
Fails n d (Some colon.Vary) line fault d' = FailsVary n line fault × IsSame d d'
Fails n d (Some colon.Test) line fault d' = FailsTest (file_in line) fault × IsSame d d'
Fails n d (Some colon.Load) line fault d' = FailsLoad d.shelf.kept (file_in line) fault × IsSame d d'
Fails n d (Some colon.Quit) line fault d' = ⊥

-- lines of the script are refused that was to be loaded
abbrev pub RefusesFile : ℕ → WithShelf → Option (List ℕ) → List ℕ → Type 0
RefusesFile n d None told = ⊥
RefusesFile n d (Some file) told =
    (script : List ℕ) × Holds d.shelf.kept file script × (is_any_refused n d.desk.scenario (lines script) ≡ true)
    × (told ≡ refusals_text n d.desk.scenario file script)

-- This is told, or what is wrong behind `:vary`; all is as it was.
abbrev pub RefusesLines : ℕ → WithShelf → Option Colon → List ℕ → List ℕ → WithShelf → Type 0
RefusesLines n d (Some colon.Load) line told d' = RefusesFile n d (file_in line) told × IsSame d d'
RefusesLines n d (Some colon.Vary) line told d' = RefusesVaried (varied_of line) told × IsSame d d'
RefusesLines n d _ line told d' = ⊥

-- what is told where such a line does nothing
abbrev pub Declines : ℕ → WithShelf → Option Colon → List ℕ → List ℕ → WithShelf → Type 0
Declines n d own line told d' =
    ((fault : OwnFault) × Fails n d own line fault d' × (told ≡ own_sentence fault)) ⊎ RefusesLines n d own line told d'

-- What such a line writes, and what is told beside it. Where it can't be done, nothing is written, and it is told why.
abbrev pub OwnReply : ℕ → WithShelf → Option Colon → List ℕ → List ℕ → List ℕ → WithShelf → Type 0
OwnReply n d own line reply told d' =
    (Tells n d own line reply d' × (told ≡ []))
    ⊎ ((reply ≡ []) × Declines n d own line told d')

-- ---- any line

-- a line of a session puts nothing on the shelf
abbrev pub ReplyBy : Bool → ℕ → WithShelf → List ℕ → List ℕ → List ℕ → WithShelf → Type 0
ReplyBy true n d line reply told d' = OwnReply n d (colon_of line) line reply told d'
ReplyBy false n d line reply told d' = ToldReply n d.desk line reply told d'.desk × (d'.shelf ≡ d.shelf)

abbrev pub DeskReply : ℕ → WithShelf → List ℕ → List ℕ → List ℕ → WithShelf → Type 0
DeskReply n d line reply told d' = ReplyBy (is_colon line) n d line reply told d'

-- the replies to these lines in their order, what is told beside each, and what the desk has come to after them
abbrev pub DeskReplies : ℕ → WithShelf → List (List ℕ) → List ℕ → List (List ℕ) → WithShelf → Type 0
DeskReplies n d [] text tolds d' = (text ≡ []) × (tolds ≡ []) × (d' ≡ d)
DeskReplies n d (line ∷ more) text tolds d' =
    (reply : List ℕ) × (told : List ℕ) × (rest : List ℕ) × (others : List (List ℕ)) × (next : WithShelf)
    × DeskReply n d line reply told next × (text ≡ reply ++ rest) × (tolds ≡ told ∷ others) × DeskReplies n next more rest others d'
