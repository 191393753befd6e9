-- Events that are told to be after the end never happen.
use Rattle.std.proofs.Common.{◌≡◌, ℕ, ◌+◌, ◌<◌, ◌≤◌, List, [], ◌∷◌, ◌++◌, Option, None, Some, option_map, refl, sym, ap, ◌∙◌, arith}
use Rattle.std.specs.Prelude.{All, slice_get}
use Rattle.std.proofs.lemmas.List.Elements.{All-cons, All-contains, All-nil}
use Rattle.std.proofs.lemmas.Option.{same_Some}
use Rattle.pd_setup.specs.Events.{EventData}
use Rattle.pd_setup.specs.declared.event.Happening.{Happening}
use Rattle.pd_port.proofs.PortLaws.{due_event}
use Rattle.pd_scenario.specs.declared.event.ScenarioEvent.{ScenarioEvent}
use Rattle.pd_scenario.specs.Plan.{Plan, script_of}
use Rattle.pd_scenario.specs.Plans.{plan_of}
use Rattle.pd_scenario.specs.Scenarios.{ScenarioData}
use Rattle.pd_scenario.specs.Script.{seen_by}
use Rattle.pd_run.specs.Order.{EachAfter}
use Rattle.pd_run.specs.Run.{GoesOn, Move, standing}
use Rattle.pd_warn.specs.declared.warning.Warning.TheVariants.{AfterEnd}
use Rattle.pd_warn.specs.Truth.{IsOfEvent, LateEventsNeverHappen}
use Rattle.pd_warn.proofs.OfRun.{IsSo, all_so}

end_is : (c : ScenarioData) → (plan_of c).end ≡ c.end_us
unfolding plan_of
end_is c = refl

-- what an event is for a port has its time
at_its_time : (at : ℕ) (o : Option Happening) (x : EventData)
    → option_map (λ (h : Happening). let y : EventData = record { at = at; happening = h } in y) o ≡ Some x → x.at ≡ at
at_its_time at None x e = absurd (cc)
at_its_time at (Some h) x e =
    let y : EventData = record { at = at; happening = h } in
    let same : y ≡ x = same_Some y x e in
    sym (ap (λ (z : EventData). z.at) same)

-- a move for an event is at its time
move_time : (plan : Plan) (c : ScenarioData) (past : List Move) (m : Move) (e : ScenarioEvent) → GoesOn plan past m → IsOfEvent c m e
    → m.due.time ≡ e.at
move_time plan c past m e goes is =
    let there = due_event (standing plan past m.port).state (slice_get (script_of plan m.port) (standing plan past m.port).taken) m.due
    is.event goes.due_is is.due in
    there.1 ∙ at_its_time e.at (seen_by c.cables c.sinks (m.port + 1) e.id e.happening) is.event is.for_port

none_of : (plan : Plan) (c : ScenarioData) (e : ScenarioEvent) (past moves : List Move) → plan.end < e.at
    → EachAfter (GoesOn plan) past moves → EachAfter (λ _ m. m.due.time ≤ plan.end) past moves
    → All (λ (m : Move). IsOfEvent c m e → ⊥) moves
none_of plan c e past [] late goes timely = All-nil _
none_of plan c e past (m ∷ ms) late goes timely =
    All-cons (λ (x : Move). IsOfEvent c x e → ⊥) m ms
    (λ is. let then = move_time plan c past m e goes.0 is in omega (arith, timely.0))
    (none_of plan c e (past ++ m ∷ []) ms late goes.1 timely.1)

pub late_events_never_happen : LateEventsNeverHappen
late_events_never_happen n c ws told e warned =
    let late : c.end_us < e.at = All-contains (IsSo c) ws (AfterEnd e.id e.at c.end_us) (all_so n c ws told) warned in
    let run = told.safe.run in
    none_of (plan_of c) c e [] told.moves (omega (arith, end_is c)) run.chained run.timely
