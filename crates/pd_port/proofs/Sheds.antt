-- A port that sheds holds its floor alone, to the end of that instant.
use Rattle.std.proofs.Common.{◌≡◌, ℕ, ◌&&◌, Bool, true, false, if◌then◌else◌, is_some, List, [], ◌∷◌, Option, Some, None, refl}
use Rattle.std.proofs.Common.{sym, ap, ◌∙◌, subst, inl, inr}
use Rattle.pd_header.specs.declared.side.Side.{Side}
use Rattle.pd_header.specs.declared.side.Side.TheVariants.{Source, Sink, Plug}
use Rattle.pd_header.specs.declared.kind.Kind.{Kind}
use Rattle.pd_header.specs.declared.kind.Kind.TheVariants as kind
use Rattle.pd_header.specs.Kinds.{kind_of_header}
use Rattle.pd_timers.specs.declared.Timer.{Timer}
use Rattle.pd_timers.specs.Deadlines.{deadline, first_of}
use Rattle.pd_objects.specs.declared.query.Answer.{Answer}
use Rattle.pd_objects.specs.declared.query.Answer.TheVariants as answers
use Rattle.pd_packet.specs.Contents.{Contents}
use Rattle.pd_packet.specs.Hearing.{heard}
use Rattle.pd_packet.specs.declared.fate.Fate.{Fate}
use Rattle.pd_protocol.specs.declared.layer.LayerAct.{LayerAct}
use Rattle.pd_protocol.specs.declared.layer.LayerAct.TheVariants as answer
use Rattle.pd_source.specs.Record.{SourceSettings, SourceRecord}
use Rattle.pd_source.specs.Silent.{IsSilentAt, EndsNow}
use Rattle.pd_source.specs.Step as source
use Rattle.pd_source.specs.declared.kinds.Stimulus.{Stimulus}
use Rattle.pd_source.specs.declared.kinds.Stimulus.TheVariants as told
use Rattle.pd_source.proofs.Rests.{hold_of-nothing}
use Rattle.pd_source.proofs.Silent.{silent-off, silent-shed, silent-stepped}
use Rattle.pd_line.specs.Later.{line_end}
use Rattle.pd_line.specs.Told.{source_hears_as}
use Rattle.pd_line.specs.declared.port_parts.PortParts.{PortParts}
use Rattle.pd_line.specs.declared.port_parts.Line.{Line}
use Rattle.pd_line.specs.declared.port_parts.Line.TheVariants.{GoodCrc, NoAnswer, HardReset}
use Rattle.pd_setup.specs.Events.{PortEventKind}
use Rattle.pd_setup.specs.declared.event.EventKind.TheVariants.{Attach, GetSink}
use Rattle.pd_setup.specs.declared.event.Happening.{Happening}
use Rattle.pd_setup.specs.declared.event.Happening.TheVariants.{Port, Budget}
use Rattle.pd_setup.specs.Events.{EventData}
use Rattle.pd_setup.specs.Settings.{SettingsData, floor_of}
use Rattle.pd_port.specs.declared.due.Due.{Due}
use Rattle.pd_port.specs.declared.due.What.{What}
use Rattle.pd_port.specs.declared.due.What.TheVariants as what
use Rattle.pd_port.specs.Budget.{RestsEmpty}
use Rattle.pd_port.specs.Happens.{is_budget, is_detach}
use Rattle.pd_port.specs.Laws.{IsOneOf, source_after_told}
use Rattle.pd_port.specs.SourceTold.{told_if_sent, told_if_up, told_if_failed, told_of_good_crc, told_at_good_crc}
use Rattle.pd_port.specs.SourceTold.{told_at_time_out, told_of_reset, told_by_line, told_attached, told_detached, told_by_event}
use Rattle.pd_port.specs.SourceTold.{source_told, told_if_shed}
use Rattle.pd_port.specs.Port.{PortRecord, line_due, timer_due, dues, due, source_settings, whole, record_after, hold}
use Rattle.pd_port.specs.Sheds.{HoldsFloorAlone, ShedsLast}
use Rattle.pd_port.proofs.Asked.{record_after-source}
use Rattle.pd_port.proofs.BudgetLaws.{source_of_budget}
use Rattle.pd_port.proofs.Earliest.{due-IsEarliest}
use Rattle.pd_port.proofs.PortLaws.{first_runs}

-- ---- what the source is told is no timer's end, but for a timer of its own that falls due

ends : Stimulus → Bool
ends (told.Ended u) = true
ends x = false

EndsNone : Option Stimulus → Type 0
EndsNone None = Unit {0}
EndsNone (Some x) = ends x ≡ false

heard_ends : (k : Kind) (header : ℕ) (objects : List ℕ) → ends (source_hears_as k header objects) ≡ false
unfolding ends
heard_ends kind.Request header [] = refl
heard_ends kind.Request header (o ∷ objects) = refl
heard_ends k header objects = refl

up_ends : (p : Contents) (act : LayerAct) → EndsNone (told_if_up p act)
unfolding EndsNone
up_ends p answer.Up = heard_ends (kind_of_header p.header) p.header p.objects
up_ends p act = tt

sent_ends : (p : Contents) (act : LayerAct) → EndsNone (told_if_sent p act)
unfolding EndsNone ends
sent_ends p answer.Sent = refl
sent_ends p act = tt

failed_ends : (act : LayerAct) → EndsNone (told_if_failed act)
unfolding EndsNone ends
failed_ends answer.Failed = refl
failed_ends act = tt

own_ends : (p : Contents) (r : PortParts) (a : Option Contents) → EndsNone (told_of_good_crc p r a)
unfolding EndsNone
own_ends p r None = tt
own_ends p r (Some a) = sent_ends p _

good_crc_ends : (side : Side) (p a : Contents) (fate : Fate) (r : PortParts) → EndsNone (told_at_good_crc side p a fate r)
good_crc_ends Source p a fate r = own_ends p r (heard a fate)
good_crc_ends Sink p a fate r = up_ends p _
good_crc_ends Plug p a fate r = up_ends p _

time_out_ends : (side : Side) (p : Contents) (r : PortParts) → EndsNone (told_at_time_out side p r)
unfolding EndsNone
time_out_ends Source p r = failed_ends _
time_out_ends Sink p r = tt
time_out_ends Plug p r = tt

if_ends : (b : Bool) (x : Stimulus) → ends x ≡ false → EndsNone (if b then Some x else None)
unfolding EndsNone
if_ends true x h = h
if_ends false x h = tt

reset_ends : (side : Side) (r : PortParts) → EndsNone (told_of_reset side r)
unfolding EndsNone ends
reset_ends Source r = refl
reset_ends Sink r = if_ends (source.hears_in r.source.record) told.HardReset refl
reset_ends Plug r = if_ends (source.hears_in r.source.record) told.HardReset refl

line_ends : (line : Line) (r : PortParts) → EndsNone (told_by_line line r)
unfolding EndsNone
line_ends (GoodCrc side p a fate end) r = good_crc_ends side p a fate r
line_ends (NoAnswer side p end) r = time_out_ends side p r
line_ends (HardReset side end) r = reset_ends side r
line_ends line r = tt

attached_ends : (k : PortEventKind) (r : PortParts) → EndsNone (told_attached k r)
unfolding EndsNone ends
attached_ends GetSink r = if_ends (source.is_ready r.source.record) told.GetSink refl
attached_ends k r = tt

detached_ends : (k : PortEventKind) → EndsNone (told_detached k)
unfolding EndsNone ends
detached_ends (Attach cable device) = refl
detached_ends k = tt

kind_ends : (b : Bool) (k : PortEventKind) (r : PortParts) → EndsNone (if b then told_attached k r else told_detached k)
kind_ends true k r = attached_ends k r
kind_ends false k r = detached_ends k

event_ends : (x : Happening) (r : PortParts) → EndsNone (told_by_event x r)
unfolding EndsNone
event_ends (Port id k) r = kind_ends (is_some r.cable) k r
event_ends Budget r = tt

shed_ends : (a : Option Answer) → EndsNone (told_if_shed a)
unfolding EndsNone ends
shed_ends (Some (answers.Fits false)) = refl
shed_ends a = tt

-- ---- a timer of the source that falls due runs to that time

timer_is : (side : Side) (o : Option (ℕ × Timer)) (d : Due) (timer : Timer) → timer_due side o ≡ Some d →
    d.what ≡ what.Timer Source timer → (side ≡ Source) × (o ≡ Some (d.time, timer))
timer_is side None d timer h w = absurd (let x : None ≡ Some d = h in cc)
timer_is side (Some (at, u)) d timer h w =
    let c : Due = record { time = at; what = what.Timer side u } in
    let same : c ≡ d = cc in
    let k : what.Timer side u ≡ what.Timer Source timer = ap (λ (x : Due). x.what) same ∙ w in
    let i : u ≡ timer = cc in
    let t : at ≡ d.time = ap (λ (x : Due). x.time) same in
    let f : Some (at, u) ≡ Some (d.time, timer) = cc in
    (cc, f)

timer_one : (r : PortRecord) (next : Option EventData) (d : Due) (timer : Timer) → IsOneOf d (dues r next) →
    d.what ≡ what.Timer Source timer → first_of r.source.deadlines ≡ Some (d.time, timer)
timer_one r None d timer (inl h) w = absurd (let x : None ≡ Some d = h in cc)
timer_one r (Some e) d timer (inl h) w =
    let c : Due = record { time = e.at; what = what.Event e } in
    let same : c ≡ d = cc in
    let k : what.Event e ≡ what.Timer Source timer = ap (λ (x : Due). x.what) same ∙ w in
    absurd (cc)
timer_one r next d timer (inr (inl h)) w = absurd (no_line (line_end r.line) h) where
  no_line : (o : Option ℕ) → line_due o ≡ Some d → ⊥
  no_line None h = let x : None ≡ Some d = h in cc
  no_line (Some at) h =
      let c : Due = record { time = at; what = what.Line } in
      let same : c ≡ d = cc in
      let k : what.Line ≡ what.Timer Source timer = ap (λ (x : Due). x.what) same ∙ w in
      cc
timer_one r next d timer (inr (inr (inl h))) w = (timer_is Source (first_of r.source.deadlines) d timer h w).1
timer_one r next d timer (inr (inr (inr (inl h)))) w =
    let x : Sink ≡ Source = (timer_is Sink (first_of r.sink.deadlines) d timer h w).0 in absurd (cc)
timer_one r next d timer (inr (inr (inr (inr (inl h))))) w =
    let x : Plug ≡ Source = (timer_is Plug (first_of r.plug.deadlines) d timer h w).0 in absurd (cc)
timer_one r next d timer (inr (inr (inr (inr (inr h))))) w = absurd h

due_source : (r : PortRecord) (next : Option EventData) (d : Due) (timer : Timer) → due r next ≡ Some d →
    d.what ≡ what.Timer Source timer → deadline r.source.deadlines timer ≡ Some d.time
due_source r next d timer h w = first_runs r.source.deadlines d.time timer (timer_one r next d timer (due-IsEarliest r next d h).one w)

-- ---- a silent source stays silent

ends_now : (t : ℕ) (x : Stimulus) (r : SourceRecord) → ends x ≡ false → EndsNow t x r
unfolding ends
ends_now t (told.Ended u) r h = absurd (cc)
ends_now t x r h = tt

told_silent : (s : SourceSettings) (t : ℕ) (x : Option Stimulus) (a : Option Answer) (r : SourceRecord) → EndsNone x →
    IsSilentAt t r → IsSilentAt t (source_after_told s t x a r)
unfolding EndsNone
told_silent s t None a r e h = h
told_silent s t (Some x) a r e h = silent-stepped s t x a r (ends_now t x r e) h

by_what : (s : SettingsData) (r : PortRecord) (d : Due) (a : Option Answer) (w : What) →
    ((timer : Timer) → w ≡ what.Timer Source timer → deadline r.source.deadlines timer ≡ Some d.time) →
    IsSilentAt d.time r.source → IsSilentAt d.time (source_after_told (source_settings s) d.time (source_told w (whole s r)) a r.source)
by_what s r d a (what.Event e) runs h = told_silent _ d.time _ a r.source (event_ends e.happening (whole s r)) h
by_what s r d a what.Line runs h = told_silent _ d.time _ a r.source (line_ends r.line (whole s r)) h
by_what s r d a (what.Timer Source timer) runs h =
    silent-stepped (source_settings s) d.time (told.Ended timer) a r.source (runs timer refl) h
by_what s r d a (what.Timer Sink timer) runs h = h
by_what s r d a (what.Timer Plug timer) runs h = h

silent_either : (t : ℕ) (b : Bool) (x y : SourceRecord) → IsSilentAt t x → IsSilentAt t y → IsSilentAt t (if b then x else y)
silent_either t true x y h k = h
silent_either t false x y h k = k

silent_after : (s : SettingsData) (r : PortRecord) (next : Option EventData) (d : Due) (a : Option Answer) →
    due r next ≡ Some d → IsSilentAt d.time r.source → IsSilentAt d.time (record_after s r d a).source
silent_after s r next d a falls h =
    subst (IsSilentAt d.time) (sym (record_after-source s r d a))
    (silent_either d.time (is_budget d.what) _ _ (told_silent (source_settings s) d.time (told_if_shed a) None r.source (shed_ends a) h)
    (silent_either d.time (is_detach d.what && is_some r.cable) _ _ (silent-off (source_settings s) d.time)
    (by_what s r d a d.what (λ timer e. due_source r next d timer falls e) h)))

silent_change : (s : SettingsData) (r : PortRecord) (d : Due) → is_budget d.what ≡ true → RestsEmpty r →
    IsSilentAt d.time (record_after s r d (Some (answers.Fits false))).source
silent_change s r d e h =
    subst (IsSilentAt d.time) (sym (source_of_budget s r d (Some (answers.Fits false)) e))
    (silent-shed (source_settings s) d.time r.source h)

floor_alone : (s : SettingsData) (r : PortRecord) (t : ℕ) → IsSilentAt t r.source → HoldsFloorAlone s r
unfolding hold
floor_alone s r t h = record { floor = hold_of-nothing (source_settings s) (floor_of s) r.source h.empty; no_contract = h.empty.contract }

pub sheds_last : ShedsLast
sheds_last = record { at_change = silent_change; after_each = silent_after; holds = floor_alone }
