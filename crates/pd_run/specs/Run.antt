-- The run of a plan: conditions on its whole list of moves.
use Rattle.std.specs.Prelude.{◌≡◌, ℕ, ◌+◌, ◌<◌, ◌≤◌, List, [], ◌∷◌, map, Option, Some, option_map, slice_get, ◌==◌, if◌then◌else◌}
use Rattle.std.specs.List.{range_with_len}
use Rattle.pd_objects.specs.declared.query.Query.{Query}
use Rattle.pd_objects.specs.declared.query.Answer.{Answer}
use Rattle.pd_port.specs.declared.due.Due.{Due}
use Rattle.pd_port.specs.declared.entry.Entry.{Entry}
use Rattle.pd_port.specs.Port.{PortRecord, is_event, detached, due, ask, record_after, entry_of, hold}
use Rattle.pd_port.specs.Budget.{contract_power}
use Rattle.pd_ledger.specs.Account.{Account}
use Rattle.pd_ledger.specs.Offer.{answer_of}
use Rattle.pd_scenario.specs.Plan.{Plan, count, settings_of, script_of, floors_of, force}
use Rattle.pd_run.specs.Order.{EachAfter, IsNoLater}

-- one move of one port, the ports being numbered from 0 here: its record before, what fell due, the answer to what it
-- asked, and what it left to be read
pub record Move : Type 0 where
  pub port : ℕ
  pub before : PortRecord
  pub due : Due
  pub answer : Option Answer
  pub entry : Entry

-- where a port stands: its record, and how many events of its script it has had
pub record Standing : Type 0 where
  pub state : PortRecord
  pub taken : ℕ

-- the record that a move leaves
abbrev pub after : Plan → Move → PortRecord
after plan m = record_after (settings_of plan m.port) m.before m.due m.answer

-- an event is used up
abbrev pub taken_after : ℕ → Due → ℕ
taken_after taken d = if is_event d.what then taken + 1 else taken

-- where a port stands after a move of its own
abbrev pub moved : Plan → Standing → Move → Standing
moved plan s m = record { state = after plan m; taken = taken_after s.taken m.due }

-- where a port that stands there stands after these moves
abbrev pub standing_from : Plan → Standing → List Move → ℕ → Standing
standing_from plan s [] p = s
standing_from plan s (m ∷ ms) p = standing_from plan (if m.port == p then moved plan s m else s) ms p

-- a port starts detached
abbrev pub at_start : Plan → ℕ → Standing
at_start plan p = record { state = detached (settings_of plan p); taken = 0 }

-- where a port stands after these moves
abbrev pub standing : Plan → List Move → ℕ → Standing
standing plan moves p = standing_from plan (at_start plan p) moves p

-- what falls due on a port that stands there
abbrev pub due_from : Plan → Standing → ℕ → Option Due
due_from plan s p = due s.state (slice_get (script_of plan p) s.taken)

-- what falls due on a port after these moves
abbrev pub due_after : Plan → List Move → ℕ → Option Due
due_after plan moves p = due_from plan (standing plan moves p) p

-- each port's hold after these moves
abbrev pub holds_after : Plan → List Move → List ℕ
holds_after plan moves = map (λ p. hold (settings_of plan p) (standing plan moves p).state) (range_with_len 0 (count plan))

-- the power of each port's contract after these moves, 0 where it has none
abbrev pub contract_powers : Plan → List Move → List ℕ
contract_powers plan moves = map (λ p. contract_power (standing plan moves p).state) (range_with_len 0 (count plan))

-- the shared budget at a time, after these moves
abbrev pub account_after : Plan → List Move → ℕ → Account
account_after plan moves at = record { budget = force plan at; floors = floors_of plan; holds = holds_after plan moves }

-- the move goes on from where the moves before it have left its port
pub record GoesOn (plan : Plan) (past : List Move) (m : Move) : Type 0 where
  pub known : m.port < count plan
  pub before_is : m.before ≡ (standing plan past m.port).state
  pub due_is : due_after plan past m.port ≡ Some m.due
  pub entry_is : m.entry ≡ entry_of (settings_of plan m.port) m.before m.due m.answer

-- no move is later than this time and port
abbrev pub NoneLater : ℕ → ℕ → List Move → Type 0
NoneLater time port [] = Unit {0}
NoneLater time port (m ∷ ms) = IsNoLater m.due.time m.port time port × NoneLater time port ms

-- no move before this one is later, or of a higher port at its time
abbrev pub IsInOrder : List Move → Move → Type 0
IsInOrder past m = NoneLater m.due.time m.port past

-- the answer to a port's query at a time, by the budget of then and by the holds that the moves before have left
abbrev pub reply_after : Plan → List Move → ℕ → ℕ → Option Query → Option Answer
reply_after plan past at p query = option_map (answer_of (account_after plan past at) p) query

-- the move has the answer to its query, and none where it asks nothing
abbrev pub IsAnswered : Plan → List Move → Move → Type 0
IsAnswered plan past m = m.answer ≡ reply_after plan past m.due.time m.port (ask (settings_of plan m.port) m.before m.due)

-- nothing is due on the port up to the end
abbrev pub IsDone : Plan → List Move → ℕ → Type 0
IsDone plan moves p = (d : Due) → due_after plan moves p ≡ Some d → plan.end < d.time

-- The moves are the run of the plan.
pub record Run (plan : Plan) (moves : List Move) : Type 0 where
  -- each port's moves are a chain
  pub chained : EachAfter (GoesOn plan) [] moves
  -- in order by time and port
  pub ordered : EachAfter IsInOrder [] moves
  -- each query has its answer, by the budget of its time and the holds that the moves before have left
  pub answered : EachAfter (IsAnswered plan) [] moves
  -- none is after the end, and none is left out
  pub timely : EachAfter (λ _ m. m.due.time ≤ plan.end) [] moves
  pub complete : (p : ℕ) → p < count plan → IsDone plan moves p

-- what a run shows of a move: its port, numbered from 1 here, and its entry
abbrev pub shown : Move → ℕ × Entry
shown m = (m.port + 1, m.entry)
