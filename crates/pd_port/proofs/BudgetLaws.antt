-- What the run of a charger relies on where the shared budget changes.
use Rattle.std.proofs.Common.{◌≡◌, ℕ, ◌<◌, ◌≤◌, ◌+◌, ◌*◌, ◌&&◌, Bool, true, false, if◌then◌else◌, is_some, Option, Some, None}
use Rattle.std.proofs.Common.{refl, ◌∙◌, sym, ap, subst, inl, arith}
use Rattle.std.proofs.lemmas.Bool.Decides.{nat_tests}
use Rattle.std.proofs.lemmas.Option.{same_Some}
use Rattle.pd_timers.specs.Timers.{place}
use Rattle.pd_objects.specs.declared.query.Answer.{Answer}
use Rattle.pd_objects.specs.declared.query.Answer.TheVariants as answers
use Rattle.pd_objects.specs.declared.query.Query.TheVariants as query
use Rattle.pd_source.specs.Record.{SourceSettings, SourceRecord, off}
use Rattle.pd_source.specs.Rest.{IsEmptyAtRest}
use Rattle.pd_source.specs.Step.{hold_of}
use Rattle.pd_source.specs.declared.kinds.Stimulus.{Stimulus}
use Rattle.pd_source.proofs.Rests.{empty-off, empty-stepped, hold_of-shed}
use Rattle.pd_line.specs.Record.{PortRecord, nothing_attached}
use Rattle.pd_setup.specs.Events.{EventData}
use Rattle.pd_setup.specs.Settings.{SettingsData, floor_of}
use Rattle.pd_port.specs.declared.due.Due.{Due}
use Rattle.pd_port.specs.declared.due.What.{What}
use Rattle.pd_port.specs.declared.due.What.TheVariants as what
use Rattle.pd_port.specs.Budget.{KeepsOrSheds, RestsEmpty, RestsAreEmpty, EventsComeFirst}
use Rattle.pd_port.specs.Happens.{is_budget, is_detach}
use Rattle.pd_port.specs.Laws.{source_after_told}
use Rattle.pd_port.specs.SourceTold.{source_told, told_if_shed}
use Rattle.pd_port.specs.Port.{rank, side_place, is_before, due, detached, source_settings, whole, ask, asks, record_after, hold}
use Rattle.pd_port.proofs.Asked.{record_after-source}
use Rattle.pd_port.proofs.PortLaws.{due_event}
use Rattle.pd_port.proofs.Earliest.{due-IsEarliest, is_before-time, some_due}

-- a source at rest holds nothing
pub empty_detached : (s : SettingsData) → RestsEmpty (detached s)
unfolding detached nothing_attached
empty_detached s = empty-off (source_settings s)

empty_told : (s : SourceSettings) (t : ℕ) (x : Option Stimulus) (a : Option Answer) (r : SourceRecord) →
    IsEmptyAtRest r → IsEmptyAtRest (source_after_told s t x a r)
empty_told s t None a r h = h
empty_told s t (Some x) a r h = empty-stepped s t x a r h

empty_either : (b : Bool) (x y : SourceRecord) → IsEmptyAtRest x → IsEmptyAtRest y → IsEmptyAtRest (if b then x else y)
empty_either true x y h k = h
empty_either false x y h k = k

pub empty_after : (s : SettingsData) (r : PortRecord) (d : Due) (a : Option Answer) → RestsEmpty r → RestsEmpty (record_after s r d a)
empty_after s r d a h =
    subst IsEmptyAtRest (sym (record_after-source s r d a))
    (empty_either (is_budget d.what) _ _ (empty_told (source_settings s) d.time (told_if_shed a) None r.source h)
    (empty_either (is_detach d.what && is_some r.cable) _ _ (empty-off (source_settings s))
    (empty_told (source_settings s) d.time (source_told d.what (whole s r)) a r.source h)))

-- where the budget changes, a port asks whether its hold may stay
pub ask_budget : (s : SettingsData) (r : PortRecord) (d : Due) → is_budget d.what ≡ true → ask s r d ≡ Some (query.Keep (hold s r))
unfolding ask
ask_budget s r d e = ap (λ (b : Bool). if b then Some (query.Keep (hold s r)) else asks (whole s r) (source_told d.what (whole s r))) e

-- the source after a step for it
pub source_of_budget : (s : SettingsData) (r : PortRecord) (d : Due) (a : Option Answer) → is_budget d.what ≡ true →
    (record_after s r d a).source ≡ source_after_told (source_settings s) d.time (told_if_shed a) None r.source
source_of_budget s r d a e =
    record_after-source s r d a
    ∙ ap (λ (b : Bool). if b then source_after_told (source_settings s) d.time (told_if_shed a) None r.source
    else (if is_detach d.what && is_some r.cable then off (source_settings s)
    else source_after_told (source_settings s) d.time (source_told d.what (whole s r)) a r.source)) e

pub keeps_or_sheds : (s : SettingsData) (r : PortRecord) (d : Due) → is_budget d.what ≡ true → RestsEmpty r → KeepsOrSheds s r d
unfolding hold
keeps_or_sheds s r d e h = record {
  keeps = ap (hold_of (source_settings s) (floor_of s)) (source_of_budget s r d (Some (answers.Fits true)) e);
  sheds = ap (hold_of (source_settings s) (floor_of s)) (source_of_budget s r d (Some (answers.Fits false)) e)
      ∙ hold_of-shed (source_settings s) (floor_of s) d.time r.source h;
}

-- what has no rank comes before what has one at its time
no_rank : (c d : Due) → rank c.what ≡ 0 → 0 < rank d.what → d.time ≡ c.time → is_before c d ≡ false → ⊥
unfolding is_before
no_rank c d e f t h = grind (arith, nat_tests)

-- a next event is due, or something no later
pub due_some : (r : PortRecord) (e : EventData) → (d : Due) × (due r (Some e) ≡ Some d) × (d.time ≤ e.at)
due_some r e =
    let c : Due = record { time = e.at; what = what.Event e } in
    let w = some_due r (Some e) c (inl refl) in
    (w.0, w.1, is_before-time c w.0 w.2)

-- an event comes first at its time
first_what : (r : PortRecord) (e : EventData) (d : Due) (w : What) → d.what ≡ w → due r (Some e) ≡ Some d →
    d.time ≡ e.at → (x : EventData) × (d.what ≡ what.Event x)
first_what r e d (what.Event x) k h t = (x, k)
first_what r e d what.Line k h t =
    let c : Due = record { time = e.at; what = what.Event e } in
    let n : rank d.what ≡ 1 = ap rank k in
    absurd (no_rank c d refl (omega arith) t ((due-IsEarliest r (Some e) d h).least c (inl refl)))
first_what r e d (what.Timer side timer) k h t =
    let c : Due = record { time = e.at; what = what.Event e } in
    let n : rank d.what ≡ 2 + 3 * place timer + side_place side = ap rank k in
    absurd (no_rank c d refl (omega arith) t ((due-IsEarliest r (Some e) d h).least c (inl refl)))

pub event_first : (r : PortRecord) (e : EventData) (d : Due) → due r (Some e) ≡ Some d → d.time ≡ e.at → d.what ≡ what.Event e
event_first r e d h t =
    let x = first_what r e d d.what refl h t in
    let k = due_event r (Some e) d x.0 h x.1 in
    let same : x.0 ≡ e = sym (same_Some _ _ k.0) in
    x.1 ∙ ap (λ (y : EventData). what.Event y) same

pub rests_are_empty : RestsAreEmpty
rests_are_empty = record { at_start = empty_detached; after_each = empty_after }

pub events_come_first : EventsComeFirst
events_come_first = record { no_later = due_some; first = event_first }
