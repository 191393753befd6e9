-- That warnings are true: of a scenario, and of what happens in its run.
use Rattle.std.specs.Prelude.{◌≡◌, ℕ, ◌+◌, ◌≤◌, true, false, not, List, [], ◌∷◌, ◌++◌, length, filter, None, Some, is_some, bytes_eq}
use Rattle.std.specs.Prelude.{All, Contains}
use Rattle.std.specs.List.{filter_map}
use Rattle.pd_objects.specs.Supply.{SupplyData}
use Rattle.pd_setup.specs.Settings.{SettingsData}
use Rattle.pd_setup.specs.Events.{EventData, PortEventKind}
use Rattle.pd_setup.specs.declared.event.Happening.TheVariants.{Port}
use Rattle.pd_source.specs.Step as source
use Rattle.pd_sink.specs.Step as sink
use Rattle.pd_line.specs.declared.notes.Fault.TheVariants as fault
use Rattle.pd_port.specs.Port.{PortRecord, hold}
use Rattle.pd_port.specs.Budget.{contract_power}
use Rattle.pd_port.specs.declared.due.What.TheVariants as what
use Rattle.pd_scenario.specs.declared.event.ScenarioEvent.{ScenarioEvent}
use Rattle.pd_scenario.specs.declared.named.NamedCable.{NamedCable}
use Rattle.pd_scenario.specs.declared.named.NamedSink.{NamedSink}
use Rattle.pd_scenario.specs.Plan.{Plan, settings_of}
use Rattle.pd_scenario.specs.Plans.{plan_of}
use Rattle.pd_scenario.specs.Scenarios.{IsValid, ScenarioData}
use Rattle.pd_scenario.specs.Script.{event_for}
use Rattle.pd_run.specs.Run.{GoesOn, Move, after, standing}
use Rattle.pd_watch.specs.Watch.{is_ignored}
use Rattle.pd_warn.specs.declared.warning.Why.{Why}
use Rattle.pd_warn.specs.declared.warning.Why.TheVariants.{Attached, Detached, Full, SinkNotReady, SourceNotReady}
use Rattle.pd_warn.specs.declared.warning.Warning.{Warning}
use Rattle.pd_warn.specs.declared.warning.Warning.TheVariants.{AfterEnd, Ignored, SmallShare, UnusedCable, UnusedSink}
use Rattle.pd_warn.specs.Stated.{budget_by, greatest_budget}
use Rattle.pd_warn.specs.Warnings.{AreWarnings}
use Rattle.pd_warn.specs.Watch.{why_of}

-- ---- an event that is ignored

-- why an event is ignored, by the record of its port before it
abbrev pub Tells : Why → PortRecord → Type 0
Tells Attached r = is_some r.cable ≡ true
Tells Detached r = is_some r.cable ≡ false
Tells Full r = (is_some r.cable ≡ true) × (8 ≤ length r.disturbances)
Tells SinkNotReady r = (is_some r.cable ≡ true) × (sink.is_ready r.sink ≡ false)
Tells SourceNotReady r = (is_some r.cable ≡ true) × (source.is_ready r.source ≡ false)

-- the move is for an event of this kind
abbrev pub IsFor : Move → ℕ → ℕ → PortEventKind → Type 0
IsFor m at id kind = m.due.what ≡ what.Event (record { at = at; happening = Port id kind })

-- where the event of a move is ignored, the reason that is told is that of its port
abbrev pub WhysAreTrue : Type 0
WhysAreTrue =
    (plan : Plan) (past : List Move) (m : Move) → GoesOn plan past m → (at id : ℕ) (kind : PortEventKind) → IsFor m at id kind
    → is_ignored m.entry ≡ true → Tells (why_of (is_some m.before.cable) kind) m.before

-- A move does nothing: it leaves its port's record as it was. Its entry has its due and its time, and that the event of this id is
-- ignored; nothing is asked, no contract changes, and nothing starts.
pub record DoesNothing (plan : Plan) (m : Move) (id : ℕ) : Type 0 where
  pub same : after plan m ≡ m.before
  pub entry : m.entry ≡ record {
    at = m.due.time;
    due = m.due;
    query = None;
    faults = record { items = fault.Ignored id ∷ [] };
    contract = None;
    start = None;
  }

-- One of these moves is for the event of this id, at this time and on this port, which is numbered from 1 here; it does nothing, for
-- this reason.
pub record IsIgnored (plan : Plan) (moves : List Move) (id at port : ℕ) (why : Why) : Type 0 where
  pub past : List Move
  pub move : Move
  pub rest : List Move
  pub among : moves ≡ past ++ move ∷ rest
  pub on_port : port ≡ move.port + 1
  pub time : at ≡ move.due.time
  pub kind : PortEventKind
  pub is_for : IsFor move at id kind
  pub nothing : DoesNothing plan move id
  pub tells : Tells why move.before

-- an event that is told to be ignored is so, and does nothing
abbrev pub IgnoredEventsDoNothing : Type 0
IgnoredEventsDoNothing =
    (n : ℕ) (c : ScenarioData) (ws : List Warning) → IsValid n c → (told : AreWarnings n c ws) (id at port : ℕ) (why : Why)
    → Contains ws (Ignored id at port why) → IsIgnored (plan_of c) told.moves id at port why

-- ---- an event after the end

-- a move is for an event of the scenario, as that event is for the move's port
pub record IsOfEvent (c : ScenarioData) (m : Move) (e : ScenarioEvent) : Type 0 where
  pub event : EventData
  pub for_port : event_for c.cables c.sinks (m.port + 1) e ≡ Some event
  pub due : m.due.what ≡ what.Event event

-- no move of the scenario's run is for an event that is told to be after the end
abbrev pub LateEventsNeverHappen : Type 0
LateEventsNeverHappen =
    (n : ℕ) (c : ScenarioData) (ws : List Warning) (told : AreWarnings n c ws) (e : ScenarioEvent)
    → Contains ws (AfterEnd e.id e.at c.end_us) → All (λ m. IsOfEvent c m e → ⊥) told.moves

-- ---- a name that nothing uses

abbrev pub without_cable : List ℕ → ScenarioData → ScenarioData
without_cable name c = record c { cables = filter (λ (cable : NamedCable). not (bytes_eq cable.name name)) c.cables }

abbrev pub without_sink : List ℕ → ScenarioData → ScenarioData
without_sink name c = record c { sinks = filter (λ (sink : NamedSink). not (bytes_eq sink.name name)) c.sinks }

-- Without a cable or a sink that is told to be unused the scenario has the same plan, and so the same run.
pub record UnusedNamesChangeNothing : Type 0 where
  pub cables : (n : ℕ) (c : ScenarioData) (ws : List Warning) → AreWarnings n c ws → (name : List ℕ) → Contains ws (UnusedCable name)
      → plan_of (without_cable name c) ≡ plan_of c
  pub sinks : (n : ℕ) (c : ScenarioData) (ws : List Warning) → AreWarnings n c ws → (name : List ℕ) → Contains ws (UnusedSink name)
      → plan_of (without_sink name c) ≡ plan_of c

-- ---- a share that is too small

-- the budgets of a scenario in its run, in mW: that at the start, and those that events change to up to the end
abbrev pub budgets_of : ScenarioData → List ℕ
budgets_of c = c.budget_mw ∷ filter_map (budget_by c.end_us) c.events

-- a number is one of some numbers, and none of them is greater
pub record IsGreatest (n : ℕ) (numbers : List ℕ) : Type 0 where
  pub one : Contains numbers n
  pub none_greater : All (λ other. other ≤ n) numbers

-- the budget by which shares are told is the greatest in the run
abbrev pub BudgetsAreGreatest : Type 0
BudgetsAreGreatest = (c : ScenarioData) → IsGreatest (greatest_budget c.budget_mw c.end_us c.events) (budgets_of c)

-- an offer of these currents in mA takes on none of its supplies more than so many microwatts
abbrev pub IsOfferWithin : ℕ → List SupplyData → List ℕ → Type 0
IsOfferWithin share supplies currents = All (λ power. power ≤ share) (source.powers supplies currents)

-- A port keeps within a share: what it holds of the budget, the offer that it makes, the offer that was delivered, and its contract.
pub record KeepsWithin (share : ℕ) (s : SettingsData) (r : PortRecord) : Type 0 where
  pub held : hold s r ≤ share
  pub made : IsOfferWithin share s.supplies r.source.draft_offer
  pub delivered : IsOfferWithin share s.supplies r.source.delivered_offer
  pub contract : contract_power r ≤ share

-- At each place of the scenario's run a port keeps within the share that is told of it; ports are numbered from 0 here.
abbrev pub SharesAreNeverPassed : Type 0
SharesAreNeverPassed =
    (n : ℕ) (c : ScenarioData) (ws : List Warning) → IsValid n c → (told : AreWarnings n c ws) (p share : ℕ)
    → Contains ws (SmallShare (p + 1) share) → (done rest : List Move) → told.moves ≡ done ++ rest
    → KeepsWithin share (settings_of (plan_of c) p) (standing (plan_of c) done p).state
