-- What a port asks is what its source's engine asks: the step steps it once, with what `source_told` says.
use Rattle.std.proofs.Common.{◌≡◌, ℕ, Bool, true, false, is_some, if◌then◌else◌, nat_lt, ◌++◌, [], ◌∷◌, length, Option, Some}
use Rattle.std.proofs.Common.{None, ◌&&◌, refl, ◌∙◌, sym, ap}
use Rattle.pd_header.specs.declared.side.Side.{Side}
use Rattle.pd_header.specs.declared.side.Side.TheVariants.{Source, Sink, Plug}
use Rattle.pd_identity.specs.declared.Cable.{Cable}
use Rattle.pd_timers.specs.declared.Timer.{Timer}
use Rattle.pd_objects.specs.declared.query.Answer.{Answer}
use Rattle.pd_objects.specs.declared.query.Answer.TheVariants as answers
use Rattle.pd_objects.specs.declared.query.Query.{Query}
use Rattle.pd_objects.specs.declared.query.Query.TheVariants as query
use Rattle.pd_source.specs.Record.{SourceRecord, off}
use Rattle.pd_source.specs.Step as source
use Rattle.pd_source.specs.declared.kinds.Stimulus.{Stimulus}
use Rattle.pd_source.specs.declared.kinds.Stimulus.TheVariants as told
use Rattle.pd_setup.specs.Sinks.{SinkData}
use Rattle.pd_sink.specs.Step as sink
use Rattle.pd_sink.specs.declared.kinds.Stimulus.TheVariants as sink_told
use Rattle.pd_setup.specs.Events.{PortEventKind}
use Rattle.pd_setup.specs.declared.event.EventKind.TheVariants.{Attach, Detach, Demand, Lose, Damage, GetSource, GetSink}
use Rattle.pd_setup.specs.declared.event.Happening.{Happening}
use Rattle.pd_setup.specs.declared.event.Happening.TheVariants.{Port, Budget}
use Rattle.pd_setup.specs.Settings.{SettingsData}
use Rattle.pd_line.specs.declared.notes.Fault.TheVariants.{Ignored}
use Rattle.pd_line.specs.declared.disturbances.Disturbance.{Disturbance}
use Rattle.pd_line.specs.declared.disturbances.Disturbance.TheVariants.{Lost, Damaged}
use Rattle.pd_line.specs.declared.port_step.PortStep.{PortStep}
use Rattle.pd_line.specs.Record.{without_settings, nothing_attached}
use Rattle.pd_line.specs.PortStep.{with_port, noted, sink_steps, plug_steps, source_steps, tells_timer, tells_attach}
use Rattle.pd_line.specs.Lines.{line_starts}
use Rattle.pd_line.proofs.RulesKeep.{choice, noted_kept, sink_steps_kept, plug_steps_kept}
use Rattle.pd_line.proofs.RulesKeep.{attached_kept, line_starts_kept}
use Rattle.pd_line.proofs.StepRelation.{unanswered}
use Rattle.pd_line.proofs.Source.{tells_timer_spares, Spares, spares}
use Rattle.pd_line.proofs.Source.{source_steps_step, sparing}
use Rattle.pd_port.specs.declared.due.Due.{Due}
use Rattle.pd_port.specs.declared.due.What.{What}
use Rattle.pd_port.specs.declared.due.What.TheVariants as what
use Rattle.pd_port.specs.declared.entry.Entry.{Entry}
use Rattle.pd_port.specs.Laws.{source_after_told, source_after}
use Rattle.pd_port.specs.Happens.{detaches, disturbs, gets_source, gets_sink, happens_attached, happens_detached, shed}
use Rattle.pd_port.specs.Happens.{budget_changes, is_detach}
use Rattle.pd_port.specs.SourceTold.{told_attached, told_detached, source_told, told_if_shed}
use Rattle.pd_port.specs.Changes.{contract_change}
use Rattle.pd_port.specs.Port.{PortRecord, happens, begun, portstep, whole, source_settings, record_after, entry_of, ask, asks}
use Rattle.pd_port.specs.Port.{hold}
use Rattle.pd_port.proofs.SourceTold.{Becomes, Tells, spares_tell, source_steps_tell, becomes_first, told_first}
use Rattle.pd_port.proofs.SourceTold.{told_then, line_ends_tells}

timer_tells : (side : Side) (timer : Timer) (t : ℕ) (w : PortStep) →
    Tells t (source_told (what.Timer side timer) w.port) w (tells_timer side timer t w) (tells_timer side timer t (unanswered w))
unfolding tells_timer
timer_tells Source timer t w = source_steps_tell t (told.Ended timer) w
timer_tells Sink timer t w = spares_tell t w _ _ (tells_timer_spares Sink tt timer t w)
timer_tells Plug timer t w = spares_tell t w _ _ (tells_timer_spares Plug tt timer t w)

attach_tells : (cable : Cable) (device : SinkData) (t : ℕ) (w : PortStep) →
    Tells t (Some told.Attach) w (tells_attach cable device t w) (tells_attach cable device t (unanswered w))
unfolding tells_attach
attach_tells cable device t w =
    let x : Option Stimulus = Some told.Attach in
    let a : PortStep = with_port (record w.port { cable = Some cable }) w in
    let b = source_steps t told.Attach a in
    let c = sink_steps t (sink_told.Attach device) b in
    told_first t x (plug_steps t _) w c _
    (told_first t x (sink_steps t (sink_told.Attach device)) w b _
    (told_then t x (source_steps t told.Attach) w a _ (attached_kept t (sparing t) cable w) (source_steps_tell t told.Attach a))
    (sink_steps_kept t (sparing t) (sink_told.Attach device) b refl))
    (plug_steps_kept t (sparing t) _ c refl)

disturbs_spares : (id : ℕ) (d : Disturbance) (t : ℕ) (w : PortStep) → Spares w (disturbs id d w) (disturbs id d (unanswered w))
unfolding disturbs
disturbs_spares id d t w =
    let waits : PortStep → PortStep =
    λ z. with_port (record z.port { disturbances = z.port.disturbances ++ d ∷ [] }) z in
    choice t (sparing t) (nat_lt (length w.port.disturbances) 8) waits (noted (Ignored id)) w
    (spares w _ refl refl) (noted_kept t (sparing t) (Ignored id) w)

gets_source_spares : (id t : ℕ) (w : PortStep) → Spares w (gets_source id t w) (gets_source id t (unanswered w))
unfolding gets_source
gets_source_spares id t w =
    choice t (sparing t) (sink.is_ready w.port.sink) (sink_steps t sink_told.GetSource) (noted (Ignored id)) w
    (sink_steps_kept t (sparing t) sink_told.GetSource w refl) (noted_kept t (sparing t) (Ignored id) w)

gets_sink_tells : (id t : ℕ) (w : PortStep) →
    Tells t (if source.is_ready w.port.source.record then Some told.GetSink else None) w (gets_sink id t w) (gets_sink id t (unanswered w))
unfolding gets_sink
gets_sink_tells id t w = either (source.is_ready w.port.source.record) where
  either : (b : Bool) → Tells t (if b then Some told.GetSink else None) w (if b then source_steps t told.GetSink w
      else noted (Ignored id) w)
      (if b then source_steps t told.GetSink (unanswered w) else noted (Ignored id) (unanswered w))
  either true = source_steps_tell t told.GetSink w
  either false = spares_tell t w _ _ (noted_kept t (sparing t) (Ignored id) w)

-- an event while nothing is attached
detached_tells : (id : ℕ) (k : PortEventKind) (t : ℕ) (w : PortStep) →
    Tells t (told_detached k) w (happens_detached id k t w) (happens_detached id k t (unanswered w))
detached_tells id (Attach cable device) t w = attach_tells cable device t w
detached_tells id k t w = spares_tell t w _ _ (noted_kept t (sparing t) (Ignored id) w)

-- the source after a step, where it is known whether the budget changes
abbrev pub source_when : Bool → SettingsData → PortRecord → Due → Option Answer → SourceRecord
source_when changes s r d given =
    if changes then source_after_told (source_settings s) d.time (told_if_shed given) None r.source
    else (if is_detach d.what && is_some r.cable then off (source_settings s)
    else source_after_told (source_settings s) d.time (source_told d.what (whole s r)) given r.source)

-- what a port asks before it, where that is known
abbrev pub ask_when : Bool → SettingsData → PortRecord → Due → Option Query
ask_when changes s r d =
    if changes then Some (query.Keep (hold s r)) else asks (whole s r) (source_told d.what (whole s r))

-- how a step of the port begins
abbrev first_step : SettingsData → PortRecord → Option Answer → PortStep
first_step s r given = begun (whole s r) given

-- what happens makes the source what the law says
abbrev Happens : SettingsData → PortRecord → What → ℕ → Option Answer → Type 0
Happens s r x t given =
    let d : Due = record { time = t; what = x } in
    Becomes (source_after s r d given) (ask s r d ≡ None) (first_step s r given) (happens x t (first_step s r given))
    (happens x t (first_step s r None))

-- what is told at the beginning of a step
abbrev TellsFirst : SettingsData → PortRecord → Option Stimulus → ℕ → Option Answer → (PortStep → PortStep) → Type 0
TellsFirst s r x t given f = Tells t x (first_step s r given) (f (first_step s r given)) (f (first_step s r None))

-- one thing while a sink is attached, and else another
by_cable : (b : Bool) (s : SettingsData) (r : PortRecord) (t : ℕ) (given : Option Answer) (x y : Option Stimulus)
    (f g : PortStep → PortStep) →
    TellsFirst s r x t given f → TellsFirst s r y t given g → TellsFirst s r (if b then x else y) t given (λ z. if b then f z else g z)
by_cable true s r t given x y f g h k = h
by_cable false s r t given x y f g h k = k

-- an event that doesn't pull the cable out
told_event : (s : SettingsData) (r : PortRecord) (id : ℕ) (k : PortEventKind) (t : ℕ) (given : Option Answer) →
    TellsFirst s r (told_attached k (whole s r)) t given (happens_attached id k t) →
    TellsFirst s r (if is_some r.cable then told_attached k (whole s r) else told_detached k) t given
    (λ z. if is_some r.cable then happens_attached id k t z else happens_detached id k t z)
told_event s r id k t given h =
    by_cable (is_some r.cable) s r t given (told_attached k (whole s r)) (told_detached k) (happens_attached id k t)
    (happens_detached id k t) h
    (detached_tells id k t (first_step s r given))

-- the cable is pulled out, where a sink is attached
pulled_out : (b : Bool) (s : SettingsData) (r : PortRecord) (id t : ℕ) (given : Option Answer) →
    Becomes (if b then off (source_settings s) else source_after_told (source_settings s) t (if b then None else None) given r.source)
    (asks (whole s r) (if b then None else None) ≡ None) (first_step s r given)
    (if b then detaches (first_step s r given) else noted (Ignored id) (first_step s r given))
    (if b then detaches (first_step s r None) else noted (Ignored id) (first_step s r None))
unfolding detaches noted nothing_attached
pulled_out true s r id t given = record { becomes = refl; blind = λ q. refl }
pulled_out false s r id t given = record { becomes = refl; blind = λ q. refl }

kind_happens : (s : SettingsData) (r : PortRecord) (at id t : ℕ) (given : Option Answer) (k : PortEventKind) →
    Happens s r (what.Event (record { at = at; happening = Port id k })) t given
unfolding ask
kind_happens s r at id t given (Attach cable device) =
    told_event s r id (Attach cable device) t given (spares_tell t _ _ _ (noted_kept t (sparing t) (Ignored id) (first_step s r given)))
kind_happens s r at id t given Detach = pulled_out (is_some r.cable) s r id t given
kind_happens s r at id t given (Demand mw) =
    told_event s r id (Demand mw) t given (spares_tell t _ _ _ (sink_steps_kept t (sparing t) (sink_told.Demand mw)
    (first_step s r given) refl))
kind_happens s r at id t given Lose =
    told_event s r id Lose t given (spares_tell t _ _ _ (disturbs_spares id Lost t (first_step s r given)))
kind_happens s r at id t given (Damage d) =
    told_event s r id (Damage d) t given (spares_tell t _ _ _ (disturbs_spares id (Damaged d) t (first_step s r given)))
kind_happens s r at id t given GetSource =
    told_event s r id GetSource t given (spares_tell t _ _ _ (gets_source_spares id t (first_step s r given)))
kind_happens s r at id t given GetSink = told_event s r id GetSink t given (gets_sink_tells id t (first_step s r given))

-- where the hold may not stay, the source sheds it
shed_becomes : (a : Option Answer) (t : ℕ) (w : PortStep) →
    (shed a t (unanswered w)).port.source.record ≡ source_after_told w.port.source.settings t (told_if_shed a) None w.port.source.record
shed_becomes (Some (answers.Fits false)) t w = (source_steps_step t told.Shed (unanswered w)).stepped
shed_becomes a t w = refl

event_becomes : (s : SettingsData) (r : PortRecord) (at : ℕ) (h : Happening) (t : ℕ) (given : Option Answer) →
    Happens s r (what.Event (record { at = at; happening = h })) t given
unfolding ask budget_changes
event_becomes s r at (Port id k) t given = kind_happens s r at id t given k
event_becomes s r at Budget t given =
    record { becomes = shed_becomes given t (first_step s r given); blind = λ q. absurd (cc) }

what_becomes : (s : SettingsData) (r : PortRecord) (x : What) (t : ℕ) (given : Option Answer) → Happens s r x t given
unfolding ask
what_becomes s r (what.Event e) t given = event_becomes s r e.at e.happening t given
what_becomes s r what.Line t given = line_ends_tells t (first_step s r given)
what_becomes s r (what.Timer side timer) t given = timer_tells side timer t (first_step s r given)

portstep_becomes : (s : SettingsData) (r : PortRecord) (d : Due) (given : Option Answer) →
    Becomes (source_after s r d given) (ask s r d ≡ None) (first_step s r given) (portstep (whole s r) d given)
    (portstep (whole s r) d None)
unfolding portstep
portstep_becomes s r d given =
    let v = happens d.what d.time (first_step s r given) in
    becomes_first (source_after s r d given) (ask s r d ≡ None) (line_starts d.time) (first_step s r given) v _
    (what_becomes s r d.what d.time given) (line_starts_kept d.time (sparing d.time) tt tt tt v)

-- the source is stepped once, with what it is told and with the answer
pub record_after-source : (s : SettingsData) (r : PortRecord) (d : Due) (given : Option Answer) →
    (record_after s r d given).source ≡ source_after s r d given
unfolding record_after
record_after-source s r d given = (portstep_becomes s r d given).becomes

-- where nothing is asked, a step is the same with each answer
portstep-blind : (s : SettingsData) (r : PortRecord) (d : Due) (a b : Option Answer) → ask s r d ≡ None →
    unanswered (portstep (whole s r) d a) ≡ unanswered (portstep (whole s r) d b)
portstep-blind s r d a b h = sym ((portstep_becomes s r d a).blind h) ∙ (portstep_becomes s r d b).blind h

pub record_after-blind : (s : SettingsData) (r : PortRecord) (d : Due) (a b : Option Answer) → ask s r d ≡ None →
    record_after s r d a ≡ record_after s r d b
unfolding record_after
record_after-blind s r d a b h = ap (λ (w : PortStep). without_settings w.port) (portstep-blind s r d a b h)

pub entry_of-blind : (s : SettingsData) (r : PortRecord) (d : Due) (a b : Option Answer) → ask s r d ≡ None →
    entry_of s r d a ≡ entry_of s r d b
unfolding entry_of
entry_of-blind s r d a b h =
    let entry : PortStep → Entry = λ w.
    record {
      at = d.time;
      due = d;
      query = ask s r d;
      faults = w.faults;
      contract = contract_change r.source.contract w.port.source.record.contract;
      start = w.start;
    } in
    ap entry (portstep-blind s r d a b h)
