-- What losing a packet leads to.
use Rattle.std.specs.Prelude.{◌≡◌, ◌⊎◌, ℕ, ◌==◌, ◌<◌, ◌&&◌, ◌||◌, nat_lt, not, min, Bool, true, false, List, [], ◌∷◌, ◌++◌}
use Rattle.std.specs.Prelude.{MatchBool, ⊤, if◌then◌else◌}
use Rattle.std.specs.Prelude.{Option, Some, None}
use Rattle.std.specs.List.{AllByRecursion}
use Rattle.pd_symbols.specs.declared.channel.Channel.{Channel}
use Rattle.pd_symbols.specs.declared.channel.Channel.TheVariants.{Sop, SopPrime}
use Rattle.pd_header.specs.declared.side.Side.{Side}
use Rattle.pd_header.specs.declared.side.Side.TheVariants.{Source, Sink, Plug}
use Rattle.pd_line.specs.declared.notes.Start.{Start}
use Rattle.pd_line.specs.declared.notes.Start.TheVariants.{Packet, HardReset}
use Rattle.pd_port.specs.declared.entry.Entry.{Entry}
use Rattle.pd_run.specs.Shown.{Shows}
use Rattle.pd_scenario.specs.Plan.{Plan}
use Rattle.pd_scenario.specs.Plans.{plan_of}
use Rattle.pd_scenario.specs.Scenarios.{ScenarioData, has_id}
use Rattle.pd_scenario.specs.declared.event.ScenarioEvent.{ScenarioEvent}
use Rattle.pd_watch.specs.Watch.{WatchData, after_entry, at_rest, disturber_of, id_of}
use Rattle.pd_sweep.specs.Beside.{AreInOrder}
use Rattle.pd_sweep.specs.Measures.{measures_of, steps_of}
use Rattle.pd_sweep.specs.Sets.{AreOfRun, count_of, further, last_of, losing, members}
use Rattle.pd_sweep.specs.Summaries.{AreFindings}
use Rattle.pd_sweep.specs.declared.base.Base.{Base}
use Rattle.pd_sweep.specs.declared.choice.Campaign.{Campaign}
use Rattle.pd_sweep.specs.declared.effect.Effect.{Effect}
use Rattle.pd_sweep.specs.declared.packets.Target.{Target}
use Rattle.pd_sweep.specs.declared.sets.Packets.{Packets}
use Rattle.pd_sweep.specs.declared.trial.Outcome.{Outcome}
use Rattle.pd_sweep.specs.declared.trial.Outcome.TheVariants.{Ran, Missed, Disturbed}
use Rattle.pd_sweep.specs.declared.trial.Trial.{Trial}

-- the numbers by which sides, and ordered sets, are told apart
abbrev pub side_place : Side → ℕ
side_place Source = 0
side_place Sink = 1
side_place Plug = 2

abbrev pub set_place : Channel → ℕ
set_place Sop = 0
set_place SopPrime = 1

-- what starts is the packet: from its side, with its ordered set and its header
abbrev pub is_packet : Target → Option Start → Bool
is_packet t None = false
is_packet t (Some (Packet side packet fate)) =
    (side_place side == side_place t.side && set_place packet.channel == set_place t.channel) && packet.header == t.header
is_packet t (Some (HardReset side)) = false

-- there is an event of this id, and it is none of these: it was put in
abbrev pub is_put_in : List ScenarioEvent → Option ℕ → Bool
is_put_in events None = false
is_put_in events (Some id) = not (has_id events id)

-- an entry is the packet's, at its time on its port, and the packet takes the disturbance of an event that none of these is; so much is
-- watched of its port before
abbrev pub hits : List ScenarioEvent → Target → WatchData → ℕ × Entry → Bool
hits events t w move =
    move.0 == t.port
    && ((move.1.at == t.at && is_packet t move.1.start) && is_put_in events (id_of (disturber_of w move.1)))

-- what is watched of the packet's port after an entry
abbrev pub watched_on : Target → WatchData → ℕ × Entry → WatchData
watched_on t w move = if move.0 == t.port then after_entry w move.1 else w

-- one of these entries hits the packet
abbrev pub hit_from : List ScenarioEvent → Target → WatchData → List (ℕ × Entry) → Bool
hit_from events t w [] = false
hit_from events t w (m ∷ ms) = hits events t w m || hit_from events t (watched_on t w m) ms

-- these entries are before a time
abbrev pub AreBefore : ℕ → List (ℕ × Entry) → Type 0
AreBefore at moves = AllByRecursion (λ move. move.1.at < at) moves

-- the packet is hit in a run, by an event that none of these is
abbrev pub is_hit : List ScenarioEvent → Target → List (ℕ × Entry) → Bool
is_hit events t moves = hit_from events t at_rest moves

-- each of some packets is
abbrev pub are_hit : List ScenarioEvent → List Target → List (ℕ × Entry) → Bool
are_hit events [] moves = true
are_hit events (t ∷ ts) moves = is_hit events t moves && are_hit events ts moves

-- These packets are hit in the run of a plan, by events that a scenario doesn't have; and these are what is found of that run, and how
-- the contracts in it differ from those in the scenario's own run. Both runs are safe.
pub record IsEffect (c : ScenarioData) (plan : Plan) (ts : List Target) (effect : Effect) : Type 0 where
  pub base : List (ℕ × Entry)
  pub base_shows : Shows (plan_of c) base
  pub moves : List (ℕ × Entry)
  pub shows : Shows plan moves
  pub hit : are_hit c.events ts moves ≡ true
  pub found : AreFindings plan moves effect.findings
  pub measured : effect.measures ≡ measures_of (plan_of c).end base moves

-- what the run of a plan comes to
abbrev pub IsRunOf : ScenarioData → Plan → List Target → Outcome → Type 0
IsRunOf c plan ts (Ran effect) = IsEffect c plan ts effect
IsRunOf c plan ts Missed = (moves : List (ℕ × Entry)) × Shows plan moves × (are_hit c.events ts moves ≡ false)
IsRunOf c plan ts Disturbed = ⊥

-- the plan in which the packets of a trial are lost
abbrev pub plan_with : ScenarioData → Campaign → Packets → Plan
plan_with c campaign ps = losing (plan_of c) campaign (members ps)

-- its run; a packet that is disturbed already has none
abbrev pub IsTrial : ℕ → ScenarioData → Campaign → Trial → Type 0
IsTrial n c campaign trial =
    MatchBool (last_of trial.packets).disturbed (trial.outcome ≡ Disturbed)
    (IsRunOf c (plan_with c campaign trial.packets) (members trial.packets) trial.outcome)

-- ---- what a trial leads to

abbrev pub has_run : Outcome → Bool
has_run (Ran effect) = true
has_run _ = false

-- one packet more may be lost
abbrev pub goes_on : Campaign → Trial → Bool
goes_on campaign trial = has_run trial.outcome && nat_lt (count_of trial.packets) (min 3 campaign.any)

-- then the sets with one packet more follow, of those that start in its run
abbrev pub LeadsTo : ScenarioData → Campaign → Trial → List Packets → Type 0
LeadsTo c campaign trial more =
    MatchBool (goes_on campaign trial)
    ((moves : List (ℕ × Entry)) × Shows (plan_with c campaign trial.packets) moves × (more ≡ further campaign trial.packets moves))
    (more ≡ [])

-- the run of a trial, where it has one
abbrev pub StandsFor : ScenarioData → Campaign → Trial → List (ℕ × Entry) → Type 0
StandsFor c campaign trial moves = MatchBool (has_run trial.outcome) (Shows (plan_with c campaign trial.packets) moves) ⊤

-- Trials in turn, of sets that wait: the first of these is tried, and what its trial leads to is tried before the others. So many are left.
abbrev pub Tries : ScenarioData → Campaign → List Packets → List Trial → List Packets → Type 0
Tries c campaign waiting [] left = left ≡ waiting
Tries c campaign [] (trial ∷ trials) left = ⊥
Tries c campaign (ps ∷ waiting) (trial ∷ trials) left =
    (trial.packets ≡ ps) × ((more : List Packets) × (LeadsTo c campaign trial more × Tries c campaign (more ++ waiting) trials left))

-- what is kept of the run of a plan, to tell others beside it: what is found of it, and its changes of contracts before the plan's end
pub record IsBase (plan : Plan) (moves : List (ℕ × Entry)) (base : Base) : Type 0 where
  pub found : AreFindings plan moves base.findings
  pub steps_are : base.steps.items ≡ steps_of plan.end moves
  pub in_order : AreInOrder plan.end base.steps.items

pub record IsBaseOf (c : ScenarioData) (base : Base) : Type 0 where
  pub moves : List (ℕ × Entry)
  pub shows : Shows (plan_of c) moves
  pub is : IsBase (plan_of c) moves base

-- ---- the sets that wait

-- the next of them, where one more may be tried
abbrev pub IsNext : ℕ → List Packets → List Packets → Option Packets → Type 0
IsNext left waiting waiting' None = (waiting' ≡ waiting) × ((left ≡ 0) ⊎ (waiting ≡ []))
IsNext left waiting waiting' (Some ps) = (0 < left) × (waiting ≡ ps ∷ waiting')

-- the sets that a trial leads to wait before the others
pub record AreAhead (n : ℕ) (c : ScenarioData) (campaign : Campaign) (trial : Trial) (waiting waiting' : List Packets) : Type 0 where
  pub more : List Packets
  pub leads : LeadsTo c campaign trial more
  pub waiting_are : waiting' ≡ more ++ waiting
  pub known : AllByRecursion (AreOfRun n) more
