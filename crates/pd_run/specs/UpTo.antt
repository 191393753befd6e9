-- A run up to a time, and plans that ask the same from one time to another.
use Rattle.std.specs.Prelude.{◌≡◌, ◌⊎◌, ◌↔◌, ℕ, ◌<◌, ◌≤◌, ◌++◌, nat_lt, if◌then◌else◌, List, [], ◌∷◌, length, drop, All, Some, filter}
use Rattle.std.specs.Prelude.{slice_index_or}
use Rattle.pd_setup.specs.Events.{EventData}
use Rattle.pd_port.specs.declared.due.Due.{Due}
use Rattle.pd_port.specs.Port.{PortData}
use Rattle.pd_scenario.specs.Plan.{Plan, count, settings_of, script_of, force}
use Rattle.pd_run.specs.declared.beside.Agreement.{Agreement}
use Rattle.pd_run.specs.declared.beside.Agreement.TheVariants as agreement
use Rattle.pd_run.specs.Run.{Move, Run, standing, due_after, GoesOn, IsAnswered}
use Rattle.pd_run.specs.Live.{RunsTo, port_after}
use Rattle.pd_run.specs.Order.{EachAfter}
use Rattle.pd_run.specs.Start.{no_port}

-- the moves before a time
abbrev pub before : ℕ → List Move → List Move
before at moves = filter (λ m. nat_lt m.due.time at) moves

-- The moves are the plan's run up to a time: they are before it, and nothing falls due before it any more, up to the end.
pub record IsUpTo (plan : Plan) (moves : List Move) (at : ℕ) : Type 0 where
  pub runs : RunsTo plan moves
  pub earlier : All (λ m. m.due.time < at) moves
  pub passed : (p : ℕ) (d : Due) → p < count plan → due_after plan moves p ≡ Some d → d.time ≤ plan.end → at ≤ d.time

-- the ports stand where these moves have left them
abbrev pub AreAfter : Plan → List Move → List PortData → Type 0
AreAfter plan moves ports = (p : ℕ) → p < count plan → slice_index_or ports p no_port ≡ port_after plan moves p

-- the first events of a script, those before a time; a script stands in the order of times
abbrev pub until : ℕ → List EventData → List EventData
until at [] = []
until at (e ∷ es) = if nat_lt e.at at then e ∷ until at es else []

-- how many they are
abbrev pub had_by : ℕ → List EventData → ℕ
had_by at script = length (until at script)

-- the events of a script from one time to another, that of the second not included
abbrev pub events_in : ℕ → ℕ → List EventData → List EventData
events_in from to script = until to (drop (had_by from script) script)

-- Two plans have the same scripts from one time to another: of each port the same events, and both end together or not before the
-- second time.
pub record AgreeInScripts (a b : Plan) (from to : ℕ) : Type 0 where
  pub events : (p : ℕ) → p < count a → events_in from to (script_of a p) ≡ events_in from to (script_of b p)
  pub ends : (a.end ≡ b.end) ⊎ ((to ≤ a.end) × (to ≤ b.end))

-- They ask the same from one time to another: they have the same scripts, and at each instant the same budget.
pub record AgreeIn (a b : Plan) (from to : ℕ) : Type 0 where
  pub scripts : AgreeInScripts a b from to
  pub budget : (t : ℕ) → from ≤ t → t < to → force a t ≡ force b t

-- how far they do
abbrev pub AgreeAs : Agreement → Plan → Plan → ℕ → ℕ → Type 0
AgreeAs agreement.Not a b from to = AgreeInScripts a b from to → ⊥
AgreeAs agreement.Scripts a b from to = AgreeInScripts a b from to × (AgreeIn a b from to → ⊥)
AgreeAs agreement.Both a b from to = AgreeIn a b from to

-- after these moves the ports of one plan stand as those of another after others: with the same settings and records
pub record AreAlike (a : Plan) (moves : List Move) (b : Plan) (others : List Move) : Type 0 where
  pub settings : a.settings ≡ b.settings
  pub records : (p : ℕ) → p < count a → (standing a moves p).state ≡ (standing b others p).state

-- the events that a port has left before a time, after these moves
abbrev pub events_left : Plan → List Move → ℕ → ℕ → List EventData
events_left plan moves p to = until to (drop (standing plan moves p).taken (script_of plan p))

-- After these moves a port of one plan stands as that of another after others: with the same settings and record, and with the same
-- events left before a time.
pub record PortIsAlike (a b : Plan) (moves others : List Move) (p to : ℕ) : Type 0 where
  pub settings : settings_of a p ≡ settings_of b p
  pub records : (standing a moves p).state ≡ (standing b others p).state
  pub events : events_left a moves p to ≡ events_left b others p to

-- Until that time the same falls due on both, and a move of the one goes on in the other and leaves the port alike again. Moves of other
-- ports, of either plan, leave it so too.
pub record PortGoesOn (a b : Plan) (moves others : List Move) (p to : ℕ) : Type 0 where
  pub dues : (d : Due) → d.time < to → (due_after a moves p ≡ Some d) ↔ (due_after b others p ≡ Some d)
  pub moves_on : (m : Move) → m.port ≡ p → m.due.time < to → GoesOn a moves m
      → GoesOn b others m × PortIsAlike a b (moves ++ m ∷ []) (others ++ m ∷ []) p to
  pub aside : (m : Move) → (m.port ≡ p → ⊥) → PortIsAlike a b (moves ++ m ∷ []) others p to
  pub aside_too : (m : Move) → (m.port ≡ p → ⊥) → PortIsAlike a b moves (others ++ m ∷ []) p to

-- So does a port that stands alike.
abbrev pub PortsGoOnAlike : Type 0
PortsGoOnAlike = (a b : Plan) (moves others : List Move) (p to : ℕ) → p < count b → PortIsAlike a b moves others p to
    → PortGoesOn a b moves others p to

-- Of a run that has these moves from one time to another, the ports stand at the first time as those of another that has come up to it,
-- and both plans have the same scripts from then on.
pub record StandsBeside (a b : Plan) (moves others between : List Move) (from to : ℕ) : Type 0 where
  pub run : Run a moves
  pub up : IsUpTo b others from
  pub alike : AreAlike a (before from moves) b others
  pub scripts : AgreeInScripts a b from to
  pub rising : from ≤ to
  pub soon : from ≤ a.end
  pub soon_too : from ≤ b.end
  pub is_between : before to moves ≡ before from moves ++ between

-- Then each move in between goes on in the other too. Where each also has the answer that the other plan's budget gives, the other goes
-- on with the same moves until the second time, and the ports stand alike again.
abbrev pub GoOnAlike : Type 0
GoOnAlike = (a b : Plan) (moves others between : List Move) (from to : ℕ) → StandsBeside a b moves others between from to
    → EachAfter (GoesOn b) others between
    × (EachAfter (IsAnswered b) others between → IsUpTo b (others ++ between) to × AreAlike a (before to moves) b (others ++ between))

-- Where both plans have the same budget at each instant, each move in between has that answer.
abbrev pub AnsweredAlike : Type 0
AnsweredAlike = (a b : Plan) (moves others between : List Move) (from to : ℕ) → StandsBeside a b moves others between from to
    → AgreeIn a b from to → EachAfter (IsAnswered b) others between
