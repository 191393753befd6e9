-- While the line is busy, nothing but its own end starts anything.
use Rattle.std.proofs.Common.{◌≡◌, ◌⊎◌, inl, inr, ℕ, Bool, true, false, is_some, nat_lt, length, [], ◌∷◌, ◌++◌, if◌then◌else◌}
use Rattle.std.proofs.Common.{Option, Some, None, refl, ◌∙◌, ap, sym}
use Rattle.pd_objects.specs.declared.query.Answer.{Answer}
use Rattle.pd_objects.specs.declared.query.Answer.TheVariants as answers
use Rattle.pd_source.specs.Step as source
use Rattle.pd_source.specs.declared.kinds.Stimulus.TheVariants as source_told
use Rattle.pd_sink.specs.Step as sink
use Rattle.pd_sink.specs.declared.kinds.Stimulus.TheVariants as sink_told
use Rattle.pd_setup.specs.Events.{PortEventKind}
use Rattle.pd_setup.specs.declared.event.EventKind.TheVariants.{Attach, Detach, Demand, Lose, Damage, GetSource, GetSink}
use Rattle.pd_setup.specs.declared.event.Happening.{Happening}
use Rattle.pd_setup.specs.declared.event.Happening.TheVariants.{Port, Budget}
use Rattle.pd_setup.specs.Settings.{SettingsData}
use Rattle.pd_line.specs.declared.notes.Fault.TheVariants.{Ignored}
use Rattle.pd_line.specs.declared.disturbances.Disturbance.{Disturbance}
use Rattle.pd_line.specs.declared.disturbances.Disturbance.TheVariants.{Lost, Damaged}
use Rattle.pd_line.specs.declared.port_parts.PortParts.{PortParts}
use Rattle.pd_line.specs.declared.port_step.PortStep.{PortStep}
use Rattle.pd_line.specs.Record.{without_settings, nothing_attached}
use Rattle.pd_line.specs.PortStep.{with_port, noted, sink_steps, source_steps}
use Rattle.pd_line.specs.Lines.{is_idle, line_starts}
use Rattle.pd_line.proofs.RulesKeep.{choice, noted_kept, sink_steps_kept, tells_attach_kept}
use Rattle.pd_line.proofs.Busy.{LeavesLine, leaves_line, source_steps_line, StartsOne, line_ends_one, line_starts-busy, tells_timer_line}
use Rattle.pd_port.specs.declared.due.Due.{Due}
use Rattle.pd_port.specs.declared.due.What.{What}
use Rattle.pd_port.specs.declared.due.What.TheVariants as what
use Rattle.pd_port.specs.Laws.{is_line}
use Rattle.pd_port.specs.Happens.{detaches, disturbs, gets_source, gets_sink, happens_attached, happens_detached}
use Rattle.pd_port.specs.Happens.{port_event_happens, shed, budget_changes, event_happens, pulls_out, pulls_cable, is_detach}
use Rattle.pd_port.specs.Port.{PortRecord, happens, begun, portstep, whole, detached, record_after, entry_of}

-- a step that leaves the line busy starts nothing more
pub portstep-busy : (r : PortParts) (d : Due) (given : Option Answer) → is_idle (happens d.what d.time (begun r given)).port.line ≡ false →
    portstep r d given ≡ happens d.what d.time (begun r given)
unfolding portstep
portstep-busy r d given h = line_starts-busy d.time (happens d.what d.time (begun r given)) h

disturbs_line : (id : ℕ) (d : Disturbance) (t : ℕ) (w : PortStep) → LeavesLine w (disturbs id d w)
unfolding disturbs
disturbs_line id d t w =
    let waits : PortStep → PortStep =
    λ z. with_port (record z.port { disturbances = z.port.disturbances ++ d ∷ [] }) z in
    choice t (leaves_line t) (nat_lt (length w.port.disturbances) 8) waits (noted (Ignored id)) w
    (record { line = refl; start = refl }) (noted_kept t (leaves_line t) (Ignored id) w)

gets_source_line : (id t : ℕ) (w : PortStep) → LeavesLine w (gets_source id t w)
unfolding gets_source
gets_source_line id t w =
    choice t (leaves_line t) (sink.is_ready w.port.sink) (sink_steps t sink_told.GetSource) (noted (Ignored id)) w
    (sink_steps_kept t (leaves_line t) sink_told.GetSource w refl) (noted_kept t (leaves_line t) (Ignored id) w)

gets_sink_line : (id t : ℕ) (w : PortStep) → LeavesLine w (gets_sink id t w)
unfolding gets_sink
gets_sink_line id t w =
    choice t (leaves_line t) (source.is_ready w.port.source.record) (source_steps t source_told.GetSink) (noted (Ignored id)) w
    (source_steps_line t source_told.GetSink w) (noted_kept t (leaves_line t) (Ignored id) w)

attached_line : (id : ℕ) (k : PortEventKind) (t : ℕ) (w : PortStep) → pulls_out k ≡ false → LeavesLine w (happens_attached id k t w)
attached_line id (Attach cable device) t w n = noted_kept t (leaves_line t) (Ignored id) w
attached_line id Detach t w n = absurd (cc)
attached_line id (Demand mw) t w n = sink_steps_kept t (leaves_line t) (sink_told.Demand mw) w refl
attached_line id Lose t w n = disturbs_line id Lost t w
attached_line id (Damage d) t w n = disturbs_line id (Damaged d) t w
attached_line id GetSource t w n = gets_source_line id t w
attached_line id GetSink t w n = gets_sink_line id t w

detached_line : (id : ℕ) (k : PortEventKind) (t : ℕ) (w : PortStep) → LeavesLine w (happens_detached id k t w)
detached_line id (Attach cable device) t w = tells_attach_kept t (leaves_line t) tt cable device w
detached_line id k t w = noted_kept t (leaves_line t) (Ignored id) w

shed_line : (a : Option Answer) (t : ℕ) (w : PortStep) → LeavesLine w (shed a t (record w { answer = None }))
shed_line (Some (answers.Fits false)) t w =
    let h = source_steps_line t source_told.Shed (record w { answer = None }) in record { line = h.line; start = h.start }
shed_line a t w = record { line = refl; start = refl }

event_line : (h : Happening) (t : ℕ) (w : PortStep) → pulls_cable h ≡ false → LeavesLine w (event_happens h t w)
unfolding budget_changes
event_line (Port id k) t w n =
    choice t (leaves_line t) (is_some w.port.cable) (happens_attached id k t) (happens_detached id k t) w
    (attached_line id k t w n) (detached_line id k t w)
event_line Budget t w n = shed_line w.answer t w

happens_line : (x : What) (t : ℕ) (w : PortStep) → is_line x ≡ false → is_detach x ≡ false → LeavesLine w (happens x t w)
happens_line (what.Event e) t w n m = event_line e.happening t w m
happens_line what.Line t w n m = absurd (cc)
happens_line (what.Timer side timer) t w n m = tells_timer_line side timer t w

-- where the line is busy, and it isn't its end that falls due, it stays as it is
portstep_line : (r : PortParts) (d : Due) (given : Option Answer) → is_idle r.line ≡ false → is_line d.what ≡ false →
    is_detach d.what ≡ false →
    LeavesLine (begun r given) (portstep r d given)
portstep_line r d given h n m =
    let w = begun r given in
    let k = happens_line d.what d.time w n m in
    let e = portstep-busy r d given (ap is_idle k.line ∙ h) in
    record { line = ap (λ (x : PortStep). x.port.line) e ∙ k.line; start = ap (λ (x : PortStep). x.start) e ∙ k.start }

pub record_after-line : (s : SettingsData) (r : PortRecord) (d : Due) (given : Option Answer) →
    is_idle r.line ≡ false → is_line d.what ≡ false →
    is_detach d.what ≡ false → (record_after s r d given).line ≡ r.line
unfolding record_after
record_after-line s r d given h n m = (portstep_line (whole s r) d given h n m).line

pub entry_of-start : (s : SettingsData) (r : PortRecord) (d : Due) (given : Option Answer) → is_idle r.line ≡ false →
    is_line d.what ≡ false →
    is_detach d.what ≡ false → (entry_of s r d given).start ≡ None
unfolding entry_of
entry_of-start s r d given h n m = (portstep_line (whole s r) d given h n m).start

detaches_start : (b : Bool) (id : ℕ) (w : PortStep) → (if b then detaches w else noted (Ignored id) w).start ≡ w.start
unfolding detaches noted
detaches_start true id w = refl
detaches_start false id w = refl

kind_start : (id : ℕ) (k : PortEventKind) (t : ℕ) (w : PortStep) → (port_event_happens id k t w).start ≡ w.start
kind_start id Detach t w = detaches_start (is_some w.port.cable) id w
kind_start id k t w = (event_line (Port id k) t w refl).start

event_start : (h : Happening) (t : ℕ) (w : PortStep) → (event_happens h t w).start ≡ w.start
event_start (Port id k) t w = kind_start id k t w
event_start Budget t w = (event_line Budget t w refl).start

pub happens_one : (x : What) (t : ℕ) (w : PortStep) → StartsOne w (happens x t w)
happens_one (what.Event e) t w = inl (event_start e.happening t w)
happens_one what.Line t w = line_ends_one t w
happens_one (what.Timer side timer) t w = inl (tells_timer_line side timer t w).start

one_of : (r : PortParts) (d : Due) (given : Option Answer) (v : PortStep) →
    v ≡ happens d.what d.time (begun r given) → StartsOne (begun r given) v →
    (v.start ≡ None) ⊎ (portstep r d given ≡ v)
one_of r d given v e (inl h) = inl h
one_of r d given v e (inr h) =
    inr (portstep-busy r d given (ap (λ (w : PortStep). is_idle w.port.line) (sym e) ∙ h.busy) ∙ sym e)

-- what falls due starts nothing, or else nothing that waits starts
pub portstep-one : (r : PortParts) (d : Due) (given : Option Answer) →
    ((happens d.what d.time (begun r given)).start ≡ None) ⊎ (portstep r d given ≡ happens d.what d.time (begun r given))
portstep-one r d given = one_of r d given (happens d.what d.time (begun r given)) refl (happens_one d.what d.time (begun r given))

pulled_out : (b : Bool) (s : SettingsData) (r : PortRecord) (id t : ℕ) (given : Option Answer) → b ≡ true →
    without_settings (line_starts t (if b then detaches (begun (whole s r) given)
    else noted (Ignored id) (begun (whole s r) given))).port ≡ detached s
unfolding line_starts detaches detached nothing_attached
pulled_out true s r id t given e = refl
pulled_out false s r id t given e = absurd (cc)

kind_new : (s : SettingsData) (r : PortRecord) (id : ℕ) (k : PortEventKind) (t : ℕ) (given : Option Answer) →
    pulls_out k ≡ true → is_some r.cable ≡ true →
    without_settings (line_starts t (port_event_happens id k t (begun (whole s r) given))).port ≡ detached s
kind_new s r id Detach t given p e = pulled_out (is_some r.cable) s r id t given e
kind_new s r id k t given p e = absurd (cc)

event_new : (s : SettingsData) (r : PortRecord) (h : Happening) (t : ℕ) (given : Option Answer) →
    pulls_cable h ≡ true → is_some r.cable ≡ true →
    without_settings (line_starts t (event_happens h t (begun (whole s r) given))).port ≡ detached s
event_new s r (Port id k) t given p e = kind_new s r id k t given p e
event_new s r Budget t given p e = absurd (cc)

what_new : (s : SettingsData) (r : PortRecord) (x : What) (t : ℕ) (given : Option Answer) → is_detach x ≡ true → is_some r.cable ≡ true →
    without_settings (line_starts t (happens x t (begun (whole s r) given))).port ≡ detached s
what_new s r (what.Event e) t given p c = event_new s r e.happening t given p c
what_new s r what.Line t given p c = absurd (cc)
what_new s r (what.Timer side timer) t given p c = absurd (cc)

-- where the cable is pulled out, the port is as at the start
pub record_after-detached : (s : SettingsData) (r : PortRecord) (d : Due) (given : Option Answer) →
    is_detach d.what ≡ true → is_some r.cable ≡ true →
    record_after s r d given ≡ detached s
unfolding record_after portstep
record_after-detached s r d given p c = what_new s r d.what d.time given p c
