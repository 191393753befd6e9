-- Ports that move.
use Rattle.std.specs.Prelude.{◌≡◌, ℕ, ◌+◌, ◌-◌, ◌<◌, ◌≤◌, Bool, true, false, if◌then◌else◌, List, [], length}
use Rattle.std.specs.Prelude.{slice_index, slice_index_or, slice_set, slice_get}
use Rattle.std.specs.Prelude.{Option, None, Some, option_map}
use Rattle.pd_objects.specs.declared.query.Answer.{Answer}
use Rattle.pd_port.specs.declared.due.Due.{Due}
use Rattle.pd_port.specs.Port.{PortData, due, ask, entry_of, hold, record_after}
use Rattle.pd_ledger.specs.Account.{Account}
use Rattle.pd_ledger.specs.Offer.{answer_of}
use Rattle.pd_scenario.specs.Plan.{Plan, count, settings_of, script_of, floors_of, force}
use Rattle.pd_run.specs.Order.{EachAfter, IsNoLater}
use Rattle.pd_run.specs.Run.{Move, standing, taken_after, due_after, holds_after, reply_after, GoesOn, IsInOrder, NoneLater, IsAnswered}
use Rattle.pd_run.specs.Start.{no_port}

-- the ports, how many events each has had, what is kept of what falls due next on each, and the shared budget
pub record LiveData : Type 0 where
  pub ports : List PortData
  pub taken : List ℕ
  pub dues : List (Option Due)
  pub account : Account

-- the port of this number, the ports being numbered from 0 here
abbrev pub port_at : LiveData → ℕ → PortData
port_at live p = slice_index_or live.ports p no_port

-- what is kept of what falls due next on a port
abbrev pub due_at : LiveData → ℕ → Option Due
due_at live p = slice_index_or live.dues p None

-- what falls due next on a port as it stands, after so many events of its script
abbrev pub asked_due : Plan → LiveData → ℕ → ℕ → Option Due
asked_due plan live p taken = due (port_at live p).port_record (slice_get (script_of plan p) taken)

-- a port of these settings stands where these moves have left it
abbrev pub port_after : Plan → List Move → ℕ → PortData
port_after plan past p = record { settings = settings_of plan p; port_record = (standing plan past p).state }

-- the moves are a run as far as it has come, and what is due isn't before them
pub record RunsTo (plan : Plan) (moves : List Move) : Type 0 where
  pub chained : EachAfter (GoesOn plan) [] moves
  pub ordered : EachAfter IsInOrder [] moves
  pub answered : EachAfter (IsAnswered plan) [] moves
  pub timely : EachAfter (λ _ m. m.due.time ≤ plan.end) [] moves
  pub ahead : (p : ℕ) (d : Due) → p < count plan → due_after plan moves p ≡ Some d → NoneLater d.time p moves

-- these moves are a run as far as it has come, and the ports, the events that they have had, what is kept of what falls due on
-- them, and what they hold are as these moves leave them
pub record StandsAfter (plan : Plan) (past : List Move) (live : LiveData) : Type 0 where
  pub runs : RunsTo plan past
  pub ports_count : length live.ports ≡ count plan
  pub taken_count : length live.taken ≡ count plan
  pub ports_are : (p : ℕ) → p < count plan → port_at live p ≡ port_after plan past p
  pub taken_are : (p : ℕ) → p < count plan → slice_index live.taken p ≡ (standing plan past p).taken
  pub dues_count : length live.dues ≡ count plan
  pub dues_are : (p : ℕ) → p < count plan → due_at live p ≡ due_after plan past p
  pub floors_are : live.account.floors ≡ floors_of plan
  pub holds_are : live.account.holds ≡ holds_after plan past

-- the same with another shared budget
abbrev pub at_budget : LiveData → ℕ → LiveData
at_budget live budget = record live { account = record live.account { budget = budget } }

-- the move that a due on a port makes after these moves
abbrev pub next_move : Plan → List Move → ℕ → Due → Move
next_move plan past p d = record {
  port = p;
  before = (standing plan past p).state;
  due = d;
  answer = reply_after plan past d.time p (ask (settings_of plan p) (standing plan past p).state d);
  entry = entry_of (settings_of plan p) (standing plan past p).state d
      (reply_after plan past d.time p (ask (settings_of plan p) (standing plan past p).state d));
}

-- among the ports below n, the due of this port is the first one, and not after the end
pub record IsFirstOf (plan : Plan) (live : LiveData) (n p : ℕ) (d : Due) : Type 0 where
  pub known : p < n
  pub is_due : due_at live p ≡ Some d
  pub soon : d.time ≤ plan.end
  pub least : (q : ℕ) (f : Due) → q < n → due_at live q ≡ Some f → IsNoLater d.time p f.time q

-- the due of this port is the first one
abbrev pub IsFirst : Plan → LiveData → ℕ → Due → Type 0
IsFirst plan live p d = IsFirstOf plan live (count plan) p d

-- nothing falls due on the ports below n up to the end
pub record IsOver (plan : Plan) (live : LiveData) (n : ℕ) : Type 0 where
  pub late : (q : ℕ) (f : Due) → q < n → due_at live q ≡ Some f → plan.end < f.time

-- of the ports below n, this is the first due that isn't after the end, if there is one
abbrev pub IsSoFar : Plan → LiveData → ℕ → Option (ℕ × Due) → Type 0
IsSoFar plan live n None = IsOver plan live n
IsSoFar plan live n (Some r) = IsFirstOf plan live n r.0 r.1

-- the answer that the port gets for a due
abbrev pub reply_at : LiveData → ℕ → Due → Option Answer
reply_at live p d = option_map (answer_of live.account p) (ask (port_at live p).settings (port_at live p).port_record d)

-- the port as its move for a due leaves it
abbrev pub moved_port : LiveData → ℕ → Due → PortData
moved_port live p d = record {
  settings = (port_at live p).settings;
  port_record = record_after (port_at live p).settings (port_at live p).port_record d (reply_at live p d);
}

-- the due of this port, which is numbered from 1 here, is the first one
pub record IsNext (plan : Plan) (live : LiveData) (port : ℕ) (d : Due) : Type 0 where
  pub from_one : 1 ≤ port
  pub first : IsFirst plan live (port - 1) d

-- a port has moved to where it stands, and what its move changes beside it is as it stands now: how many events it has had, what is kept
-- of its due, and its hold
abbrev pub renewed : Plan → LiveData → ℕ → Due → LiveData
renewed plan live p d = record {
  ports = live.ports;
  taken = slice_set live.taken p (taken_after (slice_index live.taken p) d);
  dues = slice_set live.dues p (asked_due plan live p (taken_after (slice_index live.taken p) d));
  account = record live.account { holds = slice_set live.account.holds p (hold (port_at live p).settings (port_at live p).port_record) };
}

-- the same after the port's move for a due
abbrev pub moved_live : Plan → LiveData → ℕ → Due → LiveData
moved_live plan live p d = renewed plan (record live { ports = slice_set live.ports p (moved_port live p d) }) p d

-- A port, which is numbered from 1 here, is the next one where all ports stand, and it stands there too, with the same shared budget;
-- other ports needn't.
pub record IsNextBeside (plan : Plan) (past : List Move) (whole : LiveData) (port : ℕ) (d : Due) (live : LiveData) : Type 0 where
  pub stood : StandsAfter plan past whole
  pub next : IsNext plan whole port d
  pub budget : whole.account.budget ≡ force plan d.time
  pub port_is : port_at live (port - 1) ≡ port_at whole (port - 1)
  pub taken_is : live.taken ≡ whole.taken
  pub account_is : live.account ≡ whole.account

-- The next port, which is numbered from 1 here, has moved for what was due, and all else is as it was before: how many events
-- the port has had, what is kept of its due, and its hold are still to be renewed.
pub record HasMoved (plan : Plan) (past : List Move) (before : LiveData) (port : ℕ) (d : Due) (live : LiveData) : Type 0 where
  pub stood : StandsAfter plan past before
  pub next : IsNext plan before port d
  pub budget : before.account.budget ≡ force plan d.time
  pub moved : live ≡ record before { ports = slice_set before.ports (port - 1) (moved_port before (port - 1) d) }

-- the next port has moved so beside others
pub record HasMovedBeside (plan : Plan) (past : List Move) (whole before : LiveData) (port : ℕ) (d : Due) (live : LiveData) : Type 0 where
  pub next : IsNextBeside plan past whole port d before
  pub moved : live ≡ record before { ports = slice_set before.ports (port - 1) (moved_port before (port - 1) d) }

-- so many events a port has had after a move, where it was for an event or not
abbrev pub had_with : ℕ → Bool → ℕ
had_with taken is_event = if is_event then taken + 1 else taken

-- a port that follows another run has moved as there for a due, with an answer by the budget of its time, and holds so much
abbrev pub followed : Plan → LiveData → ℕ → Due → ℕ → LiveData
followed plan live p d left = record live {
  taken = slice_set live.taken p (taken_after (slice_index live.taken p) d);
  account = record live.account { budget = force plan d.time; holds = slice_set live.account.holds p left };
}

-- a port that followed another run moves for itself, from where it stands
abbrev pub taken_up : Plan → LiveData → ℕ → PortData → LiveData
taken_up plan live p x = record live {
  ports = slice_set live.ports p x;
  dues = slice_set live.dues p (due x.port_record (slice_get (script_of plan p) (slice_index live.taken p)));
}

-- Of the ports those that are marked follow another run: nothing is kept of what falls due on them, and they needn't stand where these
-- moves have left them. All else is as where all ports stand.
pub record StandsBut (plan : Plan) (past : List Move) (away : List Bool) (whole live : LiveData) : Type 0 where
  pub stands : StandsAfter plan past whole
  pub ports_count : length live.ports ≡ count plan
  pub dues_count : length live.dues ≡ count plan
  pub taken_is : live.taken ≡ whole.taken
  pub account_is : live.account ≡ whole.account
  pub ports_are : (p : ℕ) → p < count plan → slice_index_or away p false ≡ false → port_at live p ≡ port_at whole p
  pub dues_are : (p : ℕ) → p < count plan → slice_index_or away p false ≡ false → due_at live p ≡ due_at whole p
  pub gone : (p : ℕ) → p < count plan → slice_index_or away p false ≡ true → due_at live p ≡ None

-- there are n ports
pub record HasPorts (n : ℕ) (live : LiveData) : Type 0 where
  pub ports_count : length live.ports ≡ n
  pub taken_count : length live.taken ≡ n
  pub dues_count : length live.dues ≡ n
