-- Each deadline and each line's end that a step sets is later than the step.
use Rattle.std.proofs.Common.{◌≡◌, ℕ, false, nat_lt, is_some, length, [], ◌∷◌, ◌++◌, Option, Some, None, refl}
use Rattle.pd_header.specs.declared.side.Side.{Side}
use Rattle.pd_header.specs.declared.side.Side.TheVariants.{Source, Sink, Plug}
use Rattle.pd_timers.specs.declared.Timer.{Timer}
use Rattle.pd_timers.proofs.LaterLemmas.{SetsLater-idle}
use Rattle.pd_objects.specs.declared.query.Answer.{Answer}
use Rattle.pd_objects.specs.declared.query.Answer.TheVariants as answers
use Rattle.pd_source.specs.Step as source
use Rattle.pd_source.specs.declared.kinds.Stimulus.TheVariants as source_told
use Rattle.pd_sink.specs.Step as sink
use Rattle.pd_sink.specs.declared.kinds.Stimulus.TheVariants as sink_told
use Rattle.pd_setup.specs.Events.{PortEventKind}
use Rattle.pd_setup.specs.declared.event.EventKind.TheVariants.{Attach, Detach, Demand, Lose, Damage, GetSource, GetSink}
use Rattle.pd_setup.specs.declared.event.Happening.{Happening}
use Rattle.pd_setup.specs.declared.event.Happening.TheVariants.{Port, Budget}
use Rattle.pd_setup.specs.Settings.{SettingsData}
use Rattle.pd_line.specs.declared.notes.Fault.TheVariants.{Ignored}
use Rattle.pd_line.specs.declared.disturbances.Disturbance.{Disturbance}
use Rattle.pd_line.specs.declared.disturbances.Disturbance.TheVariants.{Lost, Damaged}
use Rattle.pd_line.specs.declared.port_parts.PortParts.{PortParts}
use Rattle.pd_line.specs.declared.port_step.PortStep.{PortStep}
use Rattle.pd_line.specs.Record.{PortRecord, nothing_attached}
use Rattle.pd_line.specs.Later.{times_of, Later}
use Rattle.pd_line.specs.PortStep.{with_port, noted, sink_steps, source_steps, tells_timer}
use Rattle.pd_line.specs.Lines.{line_starts}
use Rattle.pd_line.proofs.RulesKeep.{choice, noted_kept, sink_steps_kept, tells_attach_kept, line_starts_kept}
use Rattle.pd_line.proofs.StepRelation.{times}
use Rattle.pd_line.proofs.Later.{Leads, LeadsOn, joins, later_kept, source_now, leads, tells_timer_leads, line_ends_leads}
use Rattle.pd_port.specs.declared.due.Due.{Due}
use Rattle.pd_port.specs.declared.due.What.{What}
use Rattle.pd_port.specs.declared.due.What.TheVariants as what
use Rattle.pd_port.specs.Laws.{without}
use Rattle.pd_port.specs.Happens.{detaches, disturbs, gets_source, gets_sink, happens_attached, happens_detached, shed}
use Rattle.pd_port.specs.Happens.{budget_changes, event_happens}
use Rattle.pd_port.specs.Port.{happens, begun, portstep, whole, record_after}

-- nothing runs on a detached port
detaches_leads : (t : ℕ) (w : PortStep) → LeadsOn t w (detaches w)
unfolding detaches nothing_attached
detaches_leads t w =
    let a = times w.port in
    record {
      settings_are = refl;
      later = record {
        source = SetsLater-idle t a.source;
        sink = SetsLater-idle t a.sink;
        plug = SetsLater-idle t a.plug;
        line = λ at e. absurd (cc);
      };
    }

disturbs_leads : (id : ℕ) (d : Disturbance) (t : ℕ) (w : PortStep) → LeadsOn t w (disturbs id d w)
unfolding disturbs
disturbs_leads id d t w =
    let waits : PortStep → PortStep =
    λ z. with_port (record z.port { disturbances = z.port.disturbances ++ d ∷ [] }) z in
    choice t (leads t) (nat_lt (length w.port.disturbances) 8) waits (noted (Ignored id)) w
    (record { settings_are = refl; later = later_kept t (times w.port) }) (noted_kept t (leads t) (Ignored id) w)

gets_source_leads : (id t : ℕ) (w : PortStep) → LeadsOn t w (gets_source id t w)
unfolding gets_source
gets_source_leads id t w =
    choice t (leads t) (sink.is_ready w.port.sink) (sink_steps t sink_told.GetSource) (noted (Ignored id)) w
    (sink_steps_kept t (leads t) sink_told.GetSource w refl) (noted_kept t (leads t) (Ignored id) w)

gets_sink_leads : (id t : ℕ) (w : PortStep) → LeadsOn t w (gets_sink id t w)
unfolding gets_sink
gets_sink_leads id t w =
    choice t (leads t) (source.is_ready w.port.source.record) (source_steps t source_told.GetSink) (noted (Ignored id)) w
    (source_now t source_told.GetSink w refl) (noted_kept t (leads t) (Ignored id) w)

attached_leads : (id : ℕ) (k : PortEventKind) (t : ℕ) (w : PortStep) → LeadsOn t w (happens_attached id k t w)
attached_leads id (Attach cable device) t w = noted_kept t (leads t) (Ignored id) w
attached_leads id Detach t w = detaches_leads t w
attached_leads id (Demand mw) t w = sink_steps_kept t (leads t) (sink_told.Demand mw) w refl
attached_leads id Lose t w = disturbs_leads id Lost t w
attached_leads id (Damage d) t w = disturbs_leads id (Damaged d) t w
attached_leads id GetSource t w = gets_source_leads id t w
attached_leads id GetSink t w = gets_sink_leads id t w

detached_leads : (id : ℕ) (k : PortEventKind) (t : ℕ) (w : PortStep) → LeadsOn t w (happens_detached id k t w)
detached_leads id (Attach cable device) t w = tells_attach_kept t (leads t) tt cable device w
detached_leads id k t w = noted_kept t (leads t) (Ignored id) w

shed_leads : (a : Option Answer) (t : ℕ) (w : PortStep) → LeadsOn t w (shed a t (record w { answer = None }))
shed_leads (Some (answers.Fits false)) t w = source_now t source_told.Shed (record w { answer = None }) refl
shed_leads a t w = record { settings_are = refl; later = later_kept t (times w.port) }

event_leads : (h : Happening) (t : ℕ) (w : PortStep) → LeadsOn t w (event_happens h t w)
unfolding budget_changes
event_leads (Port id k) t w =
    choice t (leads t) (is_some w.port.cable) (happens_attached id k t) (happens_detached id k t) w
    (attached_leads id k t w) (detached_leads id k t w)
event_leads Budget t w = shed_leads w.answer t w

timer_leads : (side : Side) (timer : Timer) (t : ℕ) (w : PortStep) →
    Leads t w.port.source.settings (without (what.Timer side timer) (times w.port)) (tells_timer side timer t w)
timer_leads Source timer t w = tells_timer_leads Source timer t w
timer_leads Sink timer t w = tells_timer_leads Sink timer t w
timer_leads Plug timer t w = tells_timer_leads Plug timer t w

happens_leads : (x : What) (t : ℕ) (w : PortStep) → Leads t w.port.source.settings (without x (times w.port)) (happens x t w)
happens_leads (what.Event e) t w = event_leads e.happening t w
happens_leads what.Line t w = line_ends_leads t w
happens_leads (what.Timer side timer) t w = timer_leads side timer t w

pub portstep_leads : (r : PortParts) (d : Due) (given : Option Answer) →
    Leads d.time r.source.settings (without d.what (times r)) (portstep r d given)
unfolding portstep
portstep_leads r d given =
    let w = happens d.what d.time (begun r given) in
    joins d.time _ (without d.what (times r)) w (line_starts d.time w) (happens_leads d.what d.time (begun r given))
    (line_starts_kept d.time (leads d.time) tt tt tt w)

-- a step leaves what the source is set to
pub portstep-settings : (r : PortParts) (d : Due) (given : Option Answer) → (portstep r d given).port.source.settings ≡ r.source.settings
portstep-settings r d given = (portstep_leads r d given).settings_are

pub record_after-later : (s : SettingsData) (r : PortRecord) (d : Due) (given : Option Answer) →
    Later d.time (without d.what (times_of r)) (times_of (record_after s r d given))
unfolding record_after
record_after-later s r d given = (portstep_leads (whole s r) d given).later
