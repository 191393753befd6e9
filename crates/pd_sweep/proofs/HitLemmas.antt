-- Looking for a packet that is hit.
use Rattle.std.proofs.Common.{◌≡◌, ℕ, ◌+◌, ◌<◌, ◌≤◌, Bool, true, false, cond, List, [], ◌∷◌, ◌++◌, length, drop, map, min}
use Rattle.std.proofs.Common.{Option, Some, None, refl, sym, ap, ◌∙◌, subst, inl, inr, arith, fold, slice_get}
use Rattle.std.specs.Prelude.{◌==◌, ◌&&◌, ◌||◌, Contains, MatchOption, option_map}
use Rattle.std.proofs.lemmas.Bool.{cases_Bool}
use Rattle.std.proofs.lemmas.List.{drop_all}
use Rattle.std.proofs.lemmas.Option.{get_or_from_slice_get, same_Some, slice_get_within}
use Rattle.pd_setup.specs.Events.{EventData}
use Rattle.pd_setup.specs.declared.event.EventKind.TheVariants.{Attach, Detach, Demand, Lose, Damage, GetSource, GetSink}
use Rattle.pd_setup.specs.declared.event.Happening.{Happening}
use Rattle.pd_setup.specs.declared.event.Happening.TheVariants as happens
use Rattle.pd_port.specs.declared.due.Due.{Due}
use Rattle.pd_port.specs.declared.due.What.{What}
use Rattle.pd_port.specs.declared.due.What.TheVariants as what
use Rattle.pd_port.specs.declared.entry.Entry.{Entry}
use Rattle.pd_port.specs.Port.{entry_of}
use Rattle.pd_port.proofs.PortLaws.{due_event}
use Rattle.pd_scenario.specs.declared.named.NamedCable.{NamedCable}
use Rattle.pd_scenario.specs.declared.named.NamedSink.{NamedSink}
use Rattle.pd_scenario.specs.declared.event.ScenarioEvent.{ScenarioEvent}
use Rattle.pd_scenario.specs.declared.event.ScenarioHappening.{ScenarioHappening}
use Rattle.pd_scenario.specs.declared.event.ScenarioHappening.TheVariants.{OnPort, Budget}
use Rattle.pd_scenario.specs.Events.{ScenarioEventKind}
use Rattle.pd_scenario.specs.Plan.{Plan, count, script_of}
use Rattle.pd_scenario.specs.Plans.{plan_of}
use Rattle.pd_scenario.specs.Scenarios.{ScenarioData}
use Rattle.pd_scenario.specs.Script.{event_for, events_for, resolved, script, seen_by}
use Rattle.pd_scenario.proofs.Lists.{cases, filter_map_from, none}
use Rattle.pd_scenario.proofs.Ordered.{each_only}
use Rattle.pd_scenario.proofs.Plans.{script_of-plan_of}
use Rattle.pd_run.specs.Order.{EachAfter}
use Rattle.pd_run.specs.Run.{GoesOn, Move, shown, standing}
use Rattle.pd_run.specs.Shown.{AreEntriesOf}
use Rattle.pd_report.proofs.MarginLemmas.{at-due, drop-next}
use Rattle.pd_watch.specs.Watch.{WatchData}
use Rattle.pd_sweep.specs.Along.{IsQuietBefore, disturbs, disturbs_happening, disturbs_kind, disturbs_on, earlier_disturbance}
use Rattle.pd_sweep.specs.Along.{first_disturbance, is_disturbance}
use Rattle.pd_sweep.specs.Trials.{hit_from, hits, watched_on}
use Rattle.pd_sweep.specs.declared.packets.Target.{Target}
use Rattle.pd_sweep.proofs.WatchLemmas.{QuietBefore, disturbs_what}

-- ---- the first event that disturbs a packet

module _ (port : ℕ) where
  no_later_if : (b : Bool) (first at : ℕ) → cond b (min first at) first ≤ first
  no_later_if true first at = omega arith
  no_later_if false first at = omega arith

  pub first_soon : (es : List ScenarioEvent) (first : ℕ) → fold (earlier_disturbance port) first es ≤ first
  first_soon [] first = omega arith
  first_soon (e ∷ es) first =
      let h = first_soon es (earlier_disturbance port first e) in
      let k = no_later_if (is_disturbance port e) first e.at in
      omega arith

  first_by : (es : List ScenarioEvent) (first : ℕ) (e : ScenarioEvent) → Contains es e → is_disturbance port e ≡ true
      → fold (earlier_disturbance port) first es ≤ e.at
  first_by [] first e there is = absurd (none e there)
  first_by (x ∷ es) first e there is =
      elim (cases x e es there) [
        | inl here ↦
            let h = first_soon es (earlier_disturbance port first x) in
            let test : is_disturbance port x ≡ true = ap (is_disturbance port) here ∙ is in
            let now : earlier_disturbance port first x ≡ min first x.at = ap (λ b. cond b (min first x.at) first) test in
            let time = ap (λ (y : ScenarioEvent). y.at) here in
            omega arith
        | inr later ↦ first_by es (earlier_disturbance port first x) e later is
      ]

-- ---- an event of a script is one of the scenario

-- an event of a port's script is an event of the scenario, at its time
pub record IsOf (v : ScenarioData) (port : ℕ) (x : EventData) : Type 0 where
  pub event : ScenarioEvent
  pub there : Contains v.events event
  pub on_time : event.at ≡ x.at
  pub is : seen_by v.cables v.sinks port event.id event.happening ≡ Some x.happening

made_of : (at : ℕ) (o : Option Happening) (x : EventData)
    → option_map (λ (h : Happening). record { at = at; happening = h }) o ≡ Some x → (at ≡ x.at) × (o ≡ Some x.happening)
made_of at None x h = absurd (cc)
made_of at (Some y) x h =
    let is : record { at = at; happening = y } ≡ x = same_Some (record { at = at; happening = y }) x h in
    (ap (λ (z : EventData). z.at) is, ap (λ (z : EventData). Some z.happening) is)

pub is_of : (v : ScenarioData) (p : ℕ) (x : EventData) → p < count (plan_of v) → Contains (script_of (plan_of v) p) x → IsOf v (p + 1) x
unfolding plan_of script
is_of v p x known there =
    let list : script_of (plan_of v) p ≡ script v.cables v.sinks v.events (p + 1) = script_of-plan_of v p known in
    let its : Contains (script v.cables v.sinks v.events (p + 1)) x = subst (λ l. Contains l x) list there in
    elim (each_only [] (events_for v.cables v.sinks (p + 1) v.events) x its) [
      | inl early ↦ absurd (none x early)
      | inr made ↦
          let from = filter_map_from (event_for v.cables v.sinks (p + 1)) v.events x made in
          let parts = made_of from.of.at (seen_by v.cables v.sinks (p + 1) from.of.id from.of.happening) x from.is in
          record { event = from.of; there = from.there; on_time = parts.0; is = parts.1 }
    ]

-- ---- so no entry before it is for one

same_kind : (cables : List NamedCable) (sinks : List NamedSink) (kind : ScenarioEventKind)
    → disturbs_kind (resolved cables sinks kind) ≡ disturbs kind
same_kind cables sinks (Attach cable sink) = refl
same_kind cables sinks Detach = refl
same_kind cables sinks (Demand mw) = refl
same_kind cables sinks Lose = refl
same_kind cables sinks (Damage damage) = refl
same_kind cables sinks GetSource = refl
same_kind cables sinks GetSink = refl

on_port_if : (b : Bool) (cables : List NamedCable) (sinks : List NamedSink) (id : ℕ) (kind : ScenarioEventKind) (h : Happening)
    → cond b (Some (happens.Port id (resolved cables sinks kind))) None ≡ Some h → disturbs_happening h ≡ true
    → (b && disturbs kind) ≡ true
on_port_if true cables sinks id kind h is test =
    let one : happens.Port id (resolved cables sinks kind) ≡ h = same_Some _ h is in
    sym (same_kind cables sinks kind) ∙ ap disturbs_happening one ∙ test
on_port_if false cables sinks id kind h is test = absurd (cc)

seen_disturbs : (cables : List NamedCable) (sinks : List NamedSink) (port id : ℕ) (s : ScenarioHappening) (h : Happening)
    → seen_by cables sinks port id s ≡ Some h → disturbs_happening h ≡ true → disturbs_on port s ≡ true
seen_disturbs cables sinks port id (OnPort other kind) h is test = on_port_if (other == port) cables sinks id kind h is test
seen_disturbs cables sinks port id (Budget mw) h is test =
    let one : happens.Budget ≡ h = same_Some happens.Budget h is in
    let no : false ≡ true = ap disturbs_happening one ∙ test in
    absurd (cc)

pub entry_due : (plan : Plan) (past : List Move) (m : Move) → GoesOn plan past m → m.entry.due ≡ m.due
unfolding entry_of
entry_due plan past m h = ap (λ (e : Entry). e.due) h.entry_is

-- the event that a move is for, of which its port's script tells
pub event_in : (plan : Plan) (past : List Move) (m : Move) (x : EventData) → GoesOn plan past m → m.entry.due.what ≡ what.Event x
    → Contains (script_of plan m.port) x × (m.due.time ≡ x.at)
event_in plan past m x goes is =
    let here : m.due.what ≡ what.Event x = ap (λ (d : Due). d.what) (sym (entry_due plan past m goes)) ∙ is in
    let taken = (standing plan past m.port).taken in
    let next = due_event _ (slice_get (script_of plan m.port) taken) m.due x goes.due_is here in
    let inside = slice_get_within (script_of plan m.port) taken x next.0 in
    ((taken, inside, get_or_from_slice_get (script_of plan m.port) taken x x next.0), next.1)

-- of the events of a scenario
pub quiet_scenario : (v : ScenarioData) (port at : ℕ) → IsQuietBefore (plan_of v) port (first_disturbance v.events port at)
quiet_scenario v port at p e known here there so =
    let of = is_of v p e known there in
    let test : is_disturbance port of.event ≡ true =
    seen_disturbs v.cables v.sinks port of.event.id of.event.happening e.happening
    (ap (λ q. seen_by v.cables v.sinks q of.event.id of.event.happening) (sym here) ∙ of.is) so in
    let by = first_by port v.events at of.event of.there test in
    let on_time = of.on_time in
    omega arith

module _ (plan : Plan) (t : Target) (first : ℕ) (quiet : IsQuietBefore plan t.port first) where
  quiet_move : (past : List Move) (m : Move) → GoesOn plan past m → m.entry.at < first → m.port + 1 ≡ t.port
      → disturbs_what m.entry.due.what ≡ false
  quiet_move past m goes early port = by_what m.entry.due.what refl
    where
      by_event : (x : EventData) → m.entry.due.what ≡ what.Event x → disturbs_happening x.happening ≡ false
      by_event x is =
          elim (cases_Bool (disturbs_happening x.happening)) [
            | inl so ↦
                let has = event_in plan past m x goes is in
                let late = quiet m.port x goes.known port has.0 so in
                let at = at-due plan past m goes in
                let due = has.1 in
                absurd (omega arith)
            | inr not_so ↦ not_so
          ]

      by_what : (x : What) → m.entry.due.what ≡ x → disturbs_what x ≡ false
      by_what (what.Event x) is = by_event x is
      by_what what.Line is = refl
      by_what (what.Timer side timer) is = refl

  quiet_moves : (past ms : List Move) → EachAfter (GoesOn plan) past ms → QuietBefore t first (map shown ms)
  quiet_moves past [] goes = tt
  quiet_moves past (m ∷ ms) goes = (λ early port. quiet_move past m goes.0 early port, quiet_moves (past ++ m ∷ []) ms goes.1)

-- ---- one more entry is looked at

module _ (events : List ScenarioEvent) (t : Target) (moves : List (ℕ × Entry)) (i : ℕ) (w w' : WatchData) (hit : Bool) where
  pub one_more : MatchOption (slice_get moves i) ⊥ (λ m. hit ≡ hits events t w m)
      → MatchOption (slice_get moves i) ⊥ (λ m. w' ≡ watched_on t w m)
      → hit_from events t w (drop i moves) ≡ (hit || hit_from events t w' (drop (i + 1) moves))
  one_more h k = by_case (slice_get moves i) refl h k
    where
      by_case : (o : Option (ℕ × Entry)) → slice_get moves i ≡ o → MatchOption o ⊥ (λ m. hit ≡ hits events t w m)
          → MatchOption o ⊥ (λ m. w' ≡ watched_on t w m)
          → hit_from events t w (drop i moves) ≡ (hit || hit_from events t w' (drop (i + 1) moves))
      by_case None e h k = absurd h
      by_case (Some m) e h k =
          ap (hit_from events t w) (drop-next moves i m e)
          ∙ ap (λ b. b || hit_from events t (watched_on t w m) (drop (i + 1) moves)) (sym h)
          ∙ ap (λ z. hit || hit_from events t z (drop (i + 1) moves)) (sym k)

  pub at_end : length moves ≤ i → (hit || hit_from events t w (drop i moves)) ≡ hit
  at_end late = ap (λ l. hit || hit_from events t w l) (drop_all i moves late) ∙ or_none hit
    where
      or_none : (b : Bool) → (b || false) ≡ b
      or_none true = refl
      or_none false = refl

-- the entries of a runner that stands for a plan
pub quiet_in : (n : ℕ) (plan : Plan) (moves : List (ℕ × Entry)) (o : Option Plan) (t : Target) (first : ℕ) → o ≡ Some plan
    → IsQuietBefore plan t.port first → AreEntriesOf n o moves → QuietBefore t first moves
quiet_in n plan moves o t first is quiet are =
    let s = subst (λ p. AreEntriesOf n p moves) is are in
    subst (QuietBefore t first) (sym s.shows.entries_are)
    (quiet_moves plan t first quiet [] s.shows.moves s.shows.safe.run.chained)
