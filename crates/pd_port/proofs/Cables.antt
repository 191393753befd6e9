-- What a port's source knows of the attached cable.
use Rattle.std.proofs.Common.{◌≡◌, ◌⊎◌, ◌≤◌, inl, inr, ℕ, Bool, true, false, ◌&&◌, if◌then◌else◌, is_some, nat_lt, length, List}
use Rattle.std.proofs.Common.{[], ◌∷◌, Option, Some, None, unwrap_or, ◌==◌, refl, sym, subst, ap, ◌∙◌, arith}
use Rattle.pd_header.specs.declared.side.Side.{Side}
use Rattle.pd_header.specs.declared.side.Side.TheVariants.{Source, Sink, Plug}
use Rattle.pd_header.specs.Header.{type_of}
use Rattle.pd_header.specs.Kinds.{kind_of_header}
use Rattle.pd_header.specs.declared.kind.Kind.{Kind}
use Rattle.pd_header.specs.declared.kind.Kind.TheVariants as kind
use Rattle.pd_header.proofs.Numbers.{vendor_is_15}
use Rattle.pd_identity.specs.Identity.{limit_of, rated}
use Rattle.pd_identity.specs.declared.Cable.{Cable}
use Rattle.pd_identity.specs.declared.CablePlug.{CablePlug}
use Rattle.pd_identity.specs.declared.CablePlug.TheVariants as plugs
use Rattle.pd_identity.specs.declared.Rating.{Rating}
use Rattle.pd_identity.specs.declared.Rating.TheVariants as rating
use Rattle.pd_identity.proofs.Answers.{limits_told}
use Rattle.pd_packet.specs.Contents.{Contents}
use Rattle.pd_packet.specs.Hearing.{heard}
use Rattle.pd_packet.specs.declared.fate.Fate.{Fate}
use Rattle.pd_protocol.specs.Layer as layer
use Rattle.pd_protocol.specs.declared.layer.LayerAct.{LayerAct}
use Rattle.pd_protocol.specs.declared.layer.LayerAct.TheVariants as answer
use Rattle.pd_objects.specs.declared.contract.Contract.{Contract}
use Rattle.pd_objects.specs.declared.query.Answer.{Answer}
use Rattle.pd_objects.specs.declared.query.Answer.TheVariants as answers
use Rattle.pd_source.specs.declared.kinds.State.TheVariants as state
use Rattle.pd_source.specs.declared.kinds.Stimulus.{Stimulus}
use Rattle.pd_source.specs.declared.kinds.Stimulus.TheVariants as told
use Rattle.pd_source.specs.Record.{SourceSettings, SourceRecord, cable_current, off}
use Rattle.pd_source.specs.Step as source
use Rattle.pd_source.specs.Sound.{limit_in, IsOfAnswer, is_early}
use Rattle.pd_source.proofs.Limits.{limit-stepped}
use Rattle.pd_source.specs.Laws.{is_attach}
use Rattle.pd_source.proofs.Attached.{off-stepped}
use Rattle.pd_sink.specs.Step as sink
use Rattle.pd_sink.specs.declared.kinds.Stimulus.TheVariants as sink_told
use Rattle.pd_setup.specs.Events.{PortEventKind}
use Rattle.pd_setup.specs.declared.event.EventKind.TheVariants.{Attach, Detach, Demand, Lose, Damage, GetSource, GetSink}
use Rattle.pd_setup.specs.declared.event.Happening.{Happening}
use Rattle.pd_setup.specs.declared.event.Happening.TheVariants.{Port, Budget}
use Rattle.pd_setup.specs.Settings.{SettingsData}
use Rattle.pd_line.specs.declared.notes.Fault.TheVariants.{Ignored}
use Rattle.pd_line.specs.declared.disturbances.Disturbance.{Disturbance}
use Rattle.pd_line.specs.declared.disturbances.Disturbance.TheVariants.{Lost, Damaged}
use Rattle.pd_line.specs.declared.port_parts.PortParts.{PortParts}
use Rattle.pd_line.specs.declared.port_parts.Line.{Line}
use Rattle.pd_line.specs.declared.port_parts.Line.TheVariants.{GoodCrc, NoAnswer, HardReset}
use Rattle.pd_line.specs.declared.port_step.PortStep.{PortStep}
use Rattle.pd_line.specs.Record.{PortRecord, nothing_attached}
use Rattle.pd_line.specs.Cables.{identity_of, Tells, TellsOn, LineTells, wire, TellsOfCable}
use Rattle.pd_line.specs.Told.{source_hears_as}
use Rattle.pd_line.specs.PortStep.{noted, sink_steps, source_steps}
use Rattle.pd_line.proofs.Cables.{On}
use Rattle.pd_line.proofs.CableRules.{noted_on, sink_steps_on, source_steps_on, tells_timer_on, tells_attach_on, line_ends_on}
use Rattle.pd_line.proofs.CableRules.{line_starts_on, either_on}
use Rattle.pd_port.specs.declared.due.Due.{Due}
use Rattle.pd_port.specs.declared.due.What.{What}
use Rattle.pd_port.specs.declared.due.What.TheVariants as what
use Rattle.pd_port.specs.Cables.{carried, KnowsCable, PortsKnowTheirCables}
use Rattle.pd_port.specs.Happens.{detaches, disturbs, gets_source, gets_sink, happens_attached, happens_detached, shed}
use Rattle.pd_port.specs.Happens.{budget_changes, event_happens, pulls_out}
use Rattle.pd_port.specs.Laws.{source_after_told, source_after}
use Rattle.pd_port.specs.SourceTold.{told_if_sent, told_if_up, told_if_failed, told_of_good_crc, told_at_good_crc}
use Rattle.pd_port.specs.SourceTold.{told_at_time_out, told_of_reset, told_by_line, told_attached, told_detached, told_by_event}
use Rattle.pd_port.specs.SourceTold.{source_told, told_if_shed}
use Rattle.pd_port.specs.Port.{happens, begun, portstep, whole, detached, source_settings, record_after}
use Rattle.pd_port.specs.Sound.{IsSoundPort}
use Rattle.pd_port.proofs.Asked.{record_after-source}

-- the cable that is attached after something has happened
abbrev pub cable_with : PortEventKind → Option Cable → Option Cable
cable_with Detach cable = None
cable_with (Attach cable device) None = Some cable
cable_with kind cable = cable

abbrev cable_by : Happening → Option Cable → Option Cable
cable_by (Port id k) cable = cable_with k cable
cable_by Budget cable = cable

abbrev cable_after : What → Option Cable → Option Cable
cable_after (what.Event e) cable = cable_by e.happening cable
cable_after x cable = cable

-- ---- what may reach the source

detaches_on : (w : PortStep) → On None (detaches w)
unfolding detaches nothing_attached layer.fresh
detaches_on w = record { attached = refl; known = inl refl; plug_waits = tt; sink_waits = tt; plug_sent = tt; sink_sent = tt; line = tt }

disturbs_on : (cable : Option Cable) (id : ℕ) (d : Disturbance) (t : ℕ) (w : PortStep) → On cable w → On cable (disturbs id d w)
unfolding disturbs
disturbs_on cable id d t w h =
    either_on cable t (nat_lt (length w.port.disturbances) 8) _ (noted (Ignored id) w) h
    (noted_on cable t (Ignored id) w h)

gets_source_on : (cable : Option Cable) (id t : ℕ) (w : PortStep) → On cable w → On cable (gets_source id t w)
unfolding gets_source
gets_source_on cable id t w h =
    either_on cable t (sink.is_ready w.port.sink) (sink_steps t sink_told.GetSource w) (noted (Ignored id) w)
    (sink_steps_on cable t sink_told.GetSource w h) (noted_on cable t (Ignored id) w h)

gets_sink_on : (cable : Option Cable) (id t : ℕ) (w : PortStep) → On cable w → On cable (gets_sink id t w)
unfolding gets_sink
gets_sink_on cable id t w h =
    either_on cable t (source.is_ready w.port.source.record) (source_steps t told.GetSink w) (noted (Ignored id) w)
    (source_steps_on cable t told.GetSink w h) (noted_on cable t (Ignored id) w h)

attached_on : (c : Cable) (id : ℕ) (k : PortEventKind) (t : ℕ) (w : PortStep) → On (Some c) w →
    On (cable_with k (Some c)) (happens_attached id k t w)
attached_on c id (Attach cable device) t w h = noted_on (Some c) t (Ignored id) w h
attached_on c id Detach t w h = detaches_on w
attached_on c id (Demand mw) t w h = sink_steps_on (Some c) t (sink_told.Demand mw) w h
attached_on c id Lose t w h = disturbs_on (Some c) id Lost t w h
attached_on c id (Damage d) t w h = disturbs_on (Some c) id (Damaged d) t w h
attached_on c id GetSource t w h = gets_source_on (Some c) id t w h
attached_on c id GetSink t w h = gets_sink_on (Some c) id t w h

detached_on : (id : ℕ) (k : PortEventKind) (t : ℕ) (w : PortStep) → On None w → On (cable_with k None) (happens_detached id k t w)
detached_on id (Attach cable device) t w h = tells_attach_on cable device t w h
detached_on id k t w h = noted_on None t (Ignored id) w h

kind_on : (b : Bool) (cable : Option Cable) (id : ℕ) (k : PortEventKind) (t : ℕ) (w : PortStep) → is_some cable ≡ b → On cable w →
    On (cable_with k cable) (if b then happens_attached id k t w else happens_detached id k t w)
kind_on true (Some c) id k t w e h = attached_on c id k t w h
kind_on true None id k t w e h = absurd (cc)
kind_on false (Some c) id k t w e h = absurd (cc)
kind_on false None id k t w e h = detached_on id k t w h

shed_on : (cable : Option Cable) (a : Option Answer) (t : ℕ) (w : PortStep) → On cable w → On cable (shed a t (record w { answer = None }))
shed_on cable (Some (answers.Fits false)) t w h = source_steps_on cable t told.Shed (record w { answer = None }) h
shed_on cable a t w h = h

event_on : (cable : Option Cable) (x : Happening) (t : ℕ) (w : PortStep) → On cable w → On (cable_by x cable) (event_happens x t w)
unfolding budget_changes
event_on cable (Port id k) t w h = kind_on (is_some w.port.cable) cable id k t w (ap is_some (sym h.attached)) h
event_on cable Budget t w h = shed_on cable w.answer t w h

happens_on : (cable : Option Cable) (x : What) (t : ℕ) (w : PortStep) → On cable w → On (cable_after x cable) (happens x t w)
happens_on cable (what.Event e) t w h = event_on cable e.happening t w h
happens_on cable what.Line t w h = line_ends_on cable t w h
happens_on cable (what.Timer side timer) t w h = tells_timer_on cable t side timer w h

told_after : (s : SettingsData) (r : PortRecord) (d : Due) (a : Option Answer) → TellsOfCable r.cable (wire r) →
    TellsOfCable (cable_after d.what r.cable) (wire (record_after s r d a))
unfolding record_after portstep
told_after s r d a h =
    let w = begun (whole s r) a in
    line_starts_on (cable_after d.what r.cable) d.time (happens d.what d.time w) (happens_on r.cable d.what d.time w h)

-- ---- what the source is told

rated_least : (p : CablePlug) (r : Rating) → cable_current ≤ rated (record { plug = p; rating = r })
rated_least plugs.Ack rating.FiveAmperes = omega arith
rated_least plugs.Ack rating.ThreeAmperes = omega arith
rated_least _ r = omega arith

carried_least : (cable : Option Cable) → cable_current ≤ carried cable
carried_least None = omega arith
carried_least (Some c) = rated_least c.plug c.rating

-- a cable's answer tells no more than the cable is rated at
limit_fits : (cable : Option Cable) (objects : List ℕ) → (objects ≡ []) ⊎ (objects ≡ identity_of cable) → limit_of objects ≤ carried cable
unfolding limit_of
limit_fits cable objects (inl e) = subst (λ (o : List ℕ). limit_of o ≤ carried cable) (sym e) (carried_least cable)
limit_fits None objects (inr e) = subst (λ (o : List ℕ). limit_of o ≤ carried None) (sym e) (carried_least None)
limit_fits (Some c) objects (inr e) =
    let n : limit_of objects ≡ rated c = ap limit_of e ∙ limits_told c in subst (λ (k : ℕ). k ≤ rated c) (sym n) (omega arith)

-- what the source may be told: of a limit within what the cable is rated at, and of an attach where a cable is attached
MayTell : Option Cable → Stimulus → Type 0
MayTell cable (told.Identity objects) = limit_of objects.items ≤ carried cable
MayTell cable told.Attach = is_some cable ≡ true
MayTell cable x = Unit {0}

MayTellSome : Option Cable → Option Stimulus → Type 0
MayTellSome cable None = Unit {0}
MayTellSome cable (Some x) = MayTell cable x

hears_fits : (cable : Option Cable) (k : Kind) (header : ℕ) (objects : List ℕ) →
    (k ≡ kind.VendorDefined → limit_of objects ≤ carried cable) →
    MayTell cable (source_hears_as k header objects)
unfolding MayTell
hears_fits cable kind.Request header [] h = tt
hears_fits cable kind.Request header (o ∷ objects) h = tt
hears_fits cable kind.GetSourceCap header objects h = tt
hears_fits cable kind.SinkCapabilities header objects h = tt
hears_fits cable kind.Accept header objects h = tt
hears_fits cable kind.SoftReset header objects h = tt
hears_fits cable kind.VendorDefined header objects h = h refl
hears_fits cable k header objects h = tt

up_fits : (cable : Option Cable) (p : Contents) (act : LayerAct) → Tells cable (type_of p.header) p.objects →
    MayTellSome cable (told_if_up p act)
unfolding MayTellSome
up_fits cable p answer.Up h =
    hears_fits cable (kind_of_header p.header) p.header p.objects (λ e. limit_fits cable p.objects (h (vendor_is_15 p.header e)))
up_fits cable p act h = tt

sent_fits : (cable : Option Cable) (p : Contents) (act : LayerAct) → MayTellSome cable (told_if_sent p act)
unfolding MayTellSome MayTell
sent_fits cable p answer.Sent = tt
sent_fits cable p act = tt

failed_fits : (cable : Option Cable) (act : LayerAct) → MayTellSome cable (told_if_failed act)
unfolding MayTellSome MayTell
failed_fits cable answer.Failed = tt
failed_fits cable act = tt

own_fits : (cable : Option Cable) (p : Contents) (r : PortParts) (a : Option Contents) → MayTellSome cable (told_of_good_crc p r a)
unfolding MayTellSome
own_fits cable p r None = tt
own_fits cable p r (Some a) = sent_fits cable p _

good_crc_fits : (cable : Option Cable) (side : Side) (p a : Contents) (fate : Fate) (r : PortParts) →
    TellsOn cable side p → MayTellSome cable (told_at_good_crc side p a fate r)
good_crc_fits cable Source p a fate r h = own_fits cable p r (heard a fate)
good_crc_fits cable Sink p a fate r h = up_fits cable p _ h
good_crc_fits cable Plug p a fate r h = up_fits cable p _ h

time_out_fits : (cable : Option Cable) (side : Side) (p : Contents) (r : PortParts) → MayTellSome cable (told_at_time_out side p r)
unfolding MayTellSome
time_out_fits cable Source p r = failed_fits cable _
time_out_fits cable Sink p r = tt
time_out_fits cable Plug p r = tt

if_fits : (cable : Option Cable) (b : Bool) (x : Stimulus) → MayTell cable x → MayTellSome cable (if b then Some x else None)
unfolding MayTellSome
if_fits cable true x h = h
if_fits cable false x h = tt

reset_fits : (cable : Option Cable) (side : Side) (r : PortParts) → MayTellSome cable (told_of_reset side r)
unfolding MayTellSome MayTell
reset_fits cable Source r = tt
reset_fits cable Sink r = if_fits cable (source.hears_in r.source.record) told.HardReset tt
reset_fits cable Plug r = if_fits cable (source.hears_in r.source.record) told.HardReset tt

line_fits : (cable : Option Cable) (line : Line) (r : PortParts) → LineTells cable line → MayTellSome cable (told_by_line line r)
unfolding MayTellSome
line_fits cable (GoodCrc side p a fate end) r h = good_crc_fits cable side p a fate r h
line_fits cable (NoAnswer side p end) r h = time_out_fits cable side p r
line_fits cable (HardReset side end) r h = reset_fits cable side r
line_fits cable line r h = tt

attached_fits : (cable : Option Cable) (k : PortEventKind) (r : PortParts) → MayTellSome cable (told_attached k r)
unfolding MayTellSome MayTell
attached_fits cable GetSink r = if_fits cable (source.is_ready r.source.record) told.GetSink tt
attached_fits cable k r = tt

detached_fits : (k : PortEventKind) → MayTellSome (cable_with k None) (told_detached k)
unfolding MayTellSome MayTell
detached_fits (Attach cable device) = refl
detached_fits k = tt

kind_fits : (b : Bool) (cable : Option Cable) (k : PortEventKind) (r : PortParts) → is_some cable ≡ b →
    MayTellSome (cable_with k cable) (if b then told_attached k r else told_detached k)
kind_fits true cable k r e = attached_fits (cable_with k cable) k r
kind_fits false None k r e = detached_fits k
kind_fits false (Some c) k r e = absurd (cc)

event_fits : (x : Happening) (r : PortParts) → MayTellSome (cable_by x r.cable) (told_by_event x r)
unfolding MayTellSome
event_fits (Port id k) r = kind_fits (is_some r.cable) r.cable k r refl
event_fits Budget r = tt

source_fits : (s : SettingsData) (r : PortRecord) (x : What) → TellsOfCable r.cable (wire r) →
    MayTellSome (cable_after x r.cable) (source_told x (whole s r))
unfolding MayTellSome MayTell
source_fits s r (what.Event e) h = event_fits e.happening (whole s r)
source_fits s r what.Line h = line_fits r.cable r.line (whole s r) h.line
source_fits s r (what.Timer Source timer) h = tt
source_fits s r (what.Timer Sink timer) h = tt
source_fits s r (what.Timer Plug timer) h = tt

-- ---- what becomes of the source

record Knows (cable : Option Cable) (r : SourceRecord) : Type 0 where
  limit : limit_in r ≤ carried cable
  off : cable ≡ None → r.state ≡ state.Off

limit_step : (cable : Option Cable) (old new : Option ℕ) (x : Stimulus) → unwrap_or old cable_current ≤ carried cable → MayTell cable x →
    (new ≡ old) ⊎ ((new ≡ Some cable_current) ⊎ IsOfAnswer x new) → unwrap_or new cable_current ≤ carried cable
unfolding MayTell
limit_step cable old new x h m (inl e) = subst (λ (l : Option ℕ). unwrap_or l cable_current ≤ carried cable) (sym e) h
limit_step cable old new x h m (inr (inl e)) =
    subst (λ (l : Option ℕ). unwrap_or l cable_current ≤ carried cable) (sym e) (carried_least cable)
limit_step cable old new (told.Identity objects) h m (inr (inr e)) =
    subst (λ (l : Option ℕ). unwrap_or l cable_current ≤ carried cable) (sym e) m
limit_step cable old new x h m (inr (inr e)) = absurd e

no_attach : (cable : Option Cable) (x : Stimulus) → MayTell cable x → cable ≡ None → is_attach x ≡ false
unfolding MayTell
no_attach cable told.Attach m e = absurd (let f : false ≡ true = sym (ap is_some e) ∙ m in cc)
no_attach cable x m e = refl

step_knows : (cable : Option Cable) (s : SourceSettings) (t : ℕ) (x : Stimulus) (a : Option Answer)
    (r : SourceRecord) → MayTell cable x → Knows cable r → Knows cable (source.stepped s t x a r)
step_knows cable s t x a r m h =
    record {
      limit = limit_step cable r.limit (source.stepped s t x a r).limit x h.limit m (limit-stepped s t x a r);
      off = λ e. off-stepped s t x a r (no_attach cable x m e) (h.off e);
    }

told_knows : (cable : Option Cable) (s : SourceSettings) (t : ℕ) (x : Option Stimulus) (a : Option Answer)
    (r : SourceRecord) → MayTellSome cable x → Knows cable r →
    Knows cable (source_after_told s t x a r)
unfolding MayTellSome
told_knows cable s t None a r m h = h
told_knows cable s t (Some x) a r m h = step_knows cable s t x a r m h

shed_fits : (cable : Option Cable) (a : Option Answer) → MayTellSome cable (told_if_shed a)
unfolding MayTellSome MayTell
shed_fits cable (Some (answers.Fits false)) = tt
shed_fits cable a = tt

off_limit : (b : Bool) (cable : Option Cable) → unwrap_or (if b then Some cable_current else None) cable_current ≤ carried cable
off_limit true cable = carried_least cable
off_limit false cable = carried_least cable

off_knows : (cable : Option Cable) (s : SourceSettings) → Knows cable (off s)
off_knows cable s = record { limit = off_limit (s.identity_tries == 0) cable; off = λ e. refl }

-- a cable that is attached carries no less than none does
kind_raises : (k : PortEventKind) (cable : Option Cable) (r : SourceRecord) → pulls_out k && is_some cable ≡ false →
    Knows cable r → Knows (cable_with k cable) r
kind_raises Detach None r e h = h
kind_raises Detach (Some c) r e h = absurd (cc)
kind_raises (Attach cable device) None r e h =
    let k = h.limit in
    let least = carried_least (Some cable) in
    record { limit = omega arith; off = λ n. absurd (cc) }
kind_raises (Attach cable device) (Some c) r e h = h
kind_raises k cable r e h = h

port_knows : (c : Bool) (s : SettingsData) (r : PortRecord) (at id t : ℕ) (k : PortEventKind) (a : Option Answer) →
    pulls_out k && is_some r.cable ≡ c → KnowsCable r →
    let x = what.Event (record { at = at; happening = Port id k }) in
    Knows (cable_with k r.cable) (if c then off (source_settings s)
    else source_after_told (source_settings s) t (source_told x (whole s r)) a r.source)
port_knows true s r at id t k a e h = off_knows (cable_with k r.cable) (source_settings s)
port_knows false s r at id t k a e h =
    let x = what.Event (record { at = at; happening = Port id k }) in
    let old : Knows r.cable r.source = record { limit = h.limit; off = h.off } in
    told_knows (cable_with k r.cable) (source_settings s) t (source_told x (whole s r)) a r.source
    (source_fits s r x h.told) (kind_raises k r.cable r.source e old)

event_knows : (s : SettingsData) (r : PortRecord) (at : ℕ) (x : Happening) (t : ℕ) (a : Option Answer) → KnowsCable r →
    Knows (cable_by x r.cable) (source_after s r (record { time = t; what = what.Event (record { at = at; happening = x }) }) a)
event_knows s r at (Port id k) t a h = port_knows (pulls_out k && is_some r.cable) s r at id t k a refl h
event_knows s r at Budget t a h =
    told_knows r.cable (source_settings s) t (told_if_shed a) None r.source (shed_fits r.cable a) (record { limit = h.limit; off = h.off })

source_knows : (s : SettingsData) (r : PortRecord) (x : What) (t : ℕ) (a : Option Answer) → KnowsCable r →
    Knows (cable_after x r.cable) (source_after s r (record { time = t; what = x }) a)
source_knows s r (what.Event e) t a h = event_knows s r e.at e.happening t a h
source_knows s r what.Line t a h =
    told_knows r.cable (source_settings s) t (source_told what.Line (whole s r)) a r.source
    (source_fits s r what.Line h.told) (record { limit = h.limit; off = h.off })
source_knows s r (what.Timer side timer) t a h =
    let x = what.Timer side timer in
    told_knows r.cable (source_settings s) t (source_told x (whole s r)) a r.source (source_fits s r x h.told)
    (record { limit = h.limit; off = h.off })

start_knows : (s : SettingsData) → KnowsCable (detached s)
unfolding detached nothing_attached layer.fresh
start_knows s =
    record {
      limit = off_limit (s.identity_tries == 0) None;
      off = λ e. refl;
      told = record { attached = refl; known = inl refl; plug_waits = tt; sink_waits = tt; plug_sent = tt; sink_sent = tt; line = tt };
    }

step_keeps : (s : SettingsData) (r : PortRecord) (d : Due) (a : Option Answer) → KnowsCable r → KnowsCable (record_after s r d a)
step_keeps s r d a h =
    let n = record_after s r d a in
    let t = told_after s r d a h.told in
    let k : Knows (cable_after d.what r.cable) n.source =
    subst (Knows (cable_after d.what r.cable)) (sym (record_after-source s r d a))
    (source_knows s r d.what d.time a h) in
    let now : Knows n.cable n.source = subst (λ (c : Option Cable). Knows c n.source) (sym t.attached) k in
    record { limit = now.limit; off = now.off; told = subst (λ (c : Option Cable). TellsOfCable c (wire n)) (sym t.attached) t }

pub ports_know_cables : PortsKnowTheirCables
ports_know_cables = record { at_start = start_knows; after_each = step_keeps }

-- ---- what becomes of a contract

no_contract : (c : Contract) (o : Option Contract) → o ≡ None → o ≡ Some c → ⊥
no_contract c o e f = let g : None ≡ Some c = sym e ∙ f in cc

-- the contract of a port that knows its cable is within what the cable is rated at
pub contract_is_rated : (s : SettingsData) (r : PortRecord) (c : Contract) → IsSoundPort s r → KnowsCable r → r.source.contract ≡ Some c →
    (cable : Cable) × (r.cable ≡ Some cable) × (c.ma ≤ rated cable)
contract_is_rated s r c sound knows is = by_cable r.cable refl where
  by_cable : (o : Option Cable) → r.cable ≡ o → (cable : Cable) × (r.cable ≡ Some cable) × (c.ma ≤ rated cable)
  by_cable None e =
      let early : is_early r.source.state ≡ true = ap is_early (knows.off e) in
      absurd (no_contract c r.source.contract (sound.nothing_early early).contract is)
  by_cable (Some cable) e =
      let k = sound.contract c is in
      let a = k.requested in
      let b = k.limited in
      let l = subst (λ (o : Option Cable). limit_in r.source ≤ carried o) e knows.limit in
      (cable, e, omega arith)
