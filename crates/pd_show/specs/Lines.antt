-- The lines of a shown run: what each move says, in this order: what fell due from outside, what went wrong, what was asked of
-- the shared budget, what became of the contract and of the hold, what starts on the line, and the states of the engines.
use Rattle.std.specs.Prelude.{ℕ, ◌==◌, ◌&&◌, Bool, if◌then◌else◌, List, [], ◌∷◌, ◌++◌, map, codes, bytes_eq, Option, Some, None}
use Rattle.pd_objects.specs.declared.query.Query.{Query}
use Rattle.pd_line.specs.declared.notes.Fault.{Fault}
use Rattle.pd_line.specs.declared.notes.Start.{Start}
use Rattle.pd_port.specs.declared.due.What.{What}
use Rattle.pd_port.specs.declared.due.What.TheVariants as what
use Rattle.pd_port.specs.declared.entry.ContractChange.{ContractChange}
use Rattle.pd_port.specs.declared.entry.ContractChange.TheVariants.{Made, Lost}
use Rattle.pd_scenario.specs.Plan.{Plan, count}
use Rattle.pd_run.specs.Run.{Move, shown}
use Rattle.pd_watch.specs.Watch.{WatchData, after_step, all_at_rest}
use Rattle.pd_report.specs.FaultLines.{fault_words}
use Rattle.pd_tell.specs.Words.{asked_words, contract_words, event_words, hold_words, sink_name, source_name, start_words, state_words}
use Rattle.pd_tell.specs.Members.{asked_kind, asked_members, contract_members, event_kind, event_members, fault_members, hold_members}
use Rattle.pd_tell.specs.Members.{start_kind, start_members, state_members}
use Rattle.pd_show.specs.declared.choice.Choice.{Choice}
use Rattle.pd_show.specs.declared.seen.Glance.{Glance}
use Rattle.pd_show.specs.declared.seen.Seen.{Seen}
use Rattle.pd_show.specs.Choices.{hides, is_chosen}
use Rattle.pd_show.specs.Seen.{seen_of}

-- a line: when, on which port, numbered from 1, of what kind it is, its words, and what they say as members of a JSON object
pub record Line : Type 0 where
  pub at : ℕ
  pub port : ℕ
  pub kind : List ℕ
  pub words : List ℕ
  pub members : List ℕ

-- a line of a move
abbrev pub line_of : Seen → List ℕ → List ℕ → List ℕ → Line
line_of seen kind words members =
    record { at = seen.entry.at; port = seen.port; kind = kind; words = words; members = members }

-- an event, or a change of the budget, where one falls due; timers and the line's end say nothing by themselves
abbrev pub event_lines : Seen → What → List Line
event_lines seen (what.Event event) =
    line_of seen (event_kind event.happening) (event_words event.happening seen.budget) (event_members event.happening seen.budget) ∷ []
event_lines seen what.Line = []
event_lines seen (what.Timer side timer) = []

-- what went wrong
abbrev pub fault_line : Seen → Fault → Line
fault_line seen fault = line_of seen (codes "fault") (codes "fault " ++ fault_words fault) (fault_members fault)

-- what was asked of the shared budget, and answered
abbrev pub asked_lines : Seen → Option Query → List Line
asked_lines seen None = []
asked_lines seen (Some query) =
    line_of seen (asked_kind query) (asked_words query seen.answer) (asked_members query seen.answer) ∷ []

-- what became of the contract
abbrev pub change_words : ContractChange → List ℕ
change_words (Made contract) = contract_words contract
change_words Lost = codes "contract lost"

abbrev pub change_kind : ContractChange → List ℕ
change_kind (Made contract) = codes "contract"
change_kind Lost = codes "contract_lost"

abbrev pub change_members : ContractChange → List ℕ
change_members (Made contract) = contract_members contract
change_members Lost = []

abbrev pub change_lines : Seen → Option ContractChange → List Line
change_lines seen None = []
change_lines seen (Some change) = line_of seen (change_kind change) (change_words change) (change_members change) ∷ []

-- what the port holds, where that is another than before
abbrev pub hold_lines : Seen → List Line
hold_lines seen =
    if seen.before.hold == seen.after.hold then []
    else line_of seen (codes "hold") (hold_words seen.before.hold seen.after.hold) (hold_members seen.before.hold seen.after.hold) ∷ []

-- what starts on the line, where it isn't passed over
abbrev pub start_lines : Choice → Seen → Option Start → List Line
start_lines choice seen None = []
start_lines choice seen (Some start) =
    if hides choice start then []
    else line_of seen (start_kind start) (start_words choice.codes seen.by start) (start_members choice.codes seen.by start) ∷ []

-- both states have the names that they had
abbrev pub has_same_states : Glance → Glance → Bool
has_same_states before after =
    bytes_eq (source_name before.source) (source_name after.source) && bytes_eq (sink_name before.sink) (sink_name after.sink)

-- the states of the source and of the sink, where one of them is another than before
abbrev pub state_lines : Seen → List Line
state_lines seen =
    if has_same_states seen.before seen.after then []
    else line_of seen (codes "state") (state_words seen.after.source seen.after.sink) (state_members seen.after.source seen.after.sink)
    ∷ []

-- what a move says before what starts on the line
unfoldable pub lines_before : Seen → List Line
lines_before seen =
    event_lines seen seen.entry.due.what ++ (map (fault_line seen) seen.entry.faults.items ++ (asked_lines seen seen.entry.query
    ++ (change_lines seen seen.entry.contract ++ hold_lines seen)))

-- all that a move says
unfoldable pub all_lines : Choice → Seen → List Line
all_lines choice seen = lines_before seen ++ (start_lines choice seen seen.entry.start ++ state_lines seen)

-- what is shown of a move
unfoldable pub chosen_lines : Choice → Seen → List Line
chosen_lines choice seen = if is_chosen choice seen.port seen.entry.at then all_lines choice seen else []

-- what is shown of moves of a plan, in their order, before which so much is watched of the ports
abbrev pub lines_from : Plan → Choice → List WatchData → List Move → List Line
lines_from plan choice ws [] = []
lines_from plan choice ws (m ∷ ms) = chosen_lines choice (seen_of plan ws m) ++ lines_from plan choice (after_step ws (shown m)) ms

-- what is shown of the moves of a plan from its start
abbrev pub lines_of : Plan → Choice → List Move → List Line
lines_of plan choice moves = lines_from plan choice (all_at_rest (count plan)) moves
