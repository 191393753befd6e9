-- What is proved of the definitions alone.
use Rattle.std.specs.Prelude.{◌≡◌, ◌≢◌, ◌≤◌, ℕ, false, List, [], All, length, Result, Ok, Err, Option}
use Rattle.std.specs.Str.Lines.{lines}
use Rattle.pd_scenario.specs.Scenarios.{ScenarioData}
use Rattle.pd_device.specs.declared.fault.BenchFault.{BenchFault}
use Rattle.pd_bench.specs.declared.tally.Tally.{Tally}
use Rattle.pd_bench.specs.declared.tally.Outcome.TheVariants.{Refused}
use Rattle.pd_bench.specs.Session.{SessionEnds}
use Rattle.pd_desk.specs.Commands.{is_colon}
use Rattle.pd_desk.specs.Desk.{DeskReplies, LineTells, Standing, StepsBack, StepsForward, WithShelf, at_first}
use Rattle.pd_desk.specs.Ends.{Beside, DeskEnds, read_of}
use Rattle.pd_desk.specs.History.{Lead, edit_lines}
use Rattle.pd_desk.specs.Shelf.{Shelved}
use Rattle.pd_desk.specs.declared.left.Left.{Left}

-- no line of these bytes is the desk's own
abbrev pub NoneIsOwn : List ℕ → Type 0
NoneIsOwn bytes = All (λ line. is_colon line ≡ false) (lines bytes)

-- how a session ends
abbrev pub as_session : Result Left BenchFault → Result Tally BenchFault
as_session (Ok end) = Ok end.tally
as_session (Err fault) = Err fault

-- Where no line that was read is the desk's own, the desk ended as a session does.
abbrev pub DeskIsSession : Type 0
DeskIsSession =
    (n : ℕ) (result : Result Left BenchFault) (left left' taken taken' : Option (List ℕ)) (w w' : Beside)
    (shelf shelf' : Shelved) (s : ScenarioData) (ends : DeskEnds n result left left' taken taken' w w' shelf shelf' s)
    → NoneIsOwn (read_of n result left left' taken taken' w w' shelf shelf' s ends)
    → SessionEnds n (as_session result) left left' taken taken' s

-- Beside each refusal something is told.
abbrev pub RefusalsAreTold : Type 0
RefusalsAreTold = (reasons reply told : List ℕ) → LineTells Refused reasons reply told → told ≢ []

-- The lines of the edits that stand lead from the first scenario to the one that stands, whatever was taken back and made again; at
-- most 100 of these edits can be taken back.
pub record IsLed (n : ℕ) (s : ScenarioData) (d : Standing) : Type 0 where
  pub first_is : d.first ≡ s
  pub leads : Lead n s (edit_lines d.notes) d.scenario
  pub few : length d.notes.earlier ≤ 100

abbrev pub EditsLead : Type 0
EditsLead =
    (n : ℕ) (s : ScenarioData) (shelf : Shelved) (ls : List (List ℕ)) (text : List ℕ) (tolds : List (List ℕ)) (d' : WithShelf)
    → DeskReplies n (at_first s shelf) ls text tolds d' → IsLed n s d'.desk

-- An edit that was taken back and made again stands as before, with what was noted.
abbrev pub ThereAndBack : Type 0
ThereAndBack =
    (d d' d'' : Standing) → length d.notes.earlier ≤ 100 → StepsBack d d' → StepsForward d' d'' → d'' ≡ d
