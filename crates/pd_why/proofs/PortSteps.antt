-- What a port's step does to the Request and the Source_Capabilities that wait, and what starts in it.
use Rattle.std.proofs.Common.{◌≡◌, inl, inr, ℕ, Bool, true, false, not, ◌&&◌, if◌then◌else◌, nat_lt, is_some, List, [], ◌∷◌, ◌++◌, length}
use Rattle.std.proofs.Common.{Option, None, Some, option_map, refl, sym, ap, ◌∙◌, subst}
use Rattle.pd_symbols.specs.declared.channel.Channel.{Channel}
use Rattle.pd_symbols.specs.declared.channel.Channel.TheVariants.{Sop, SopPrime}
use Rattle.pd_header.specs.declared.side.Side.{Side}
use Rattle.pd_header.specs.declared.side.Side.TheVariants.{Source, Sink, Plug}
use Rattle.pd_packet.specs.Contents.{Contents}
use Rattle.pd_objects.specs.declared.query.Answer.{Answer}
use Rattle.pd_objects.specs.declared.query.Answer.TheVariants as answers
use Rattle.pd_timers.specs.declared.Timer.{Timer}
use Rattle.pd_protocol.specs.LayerRecord.{LayerRecord, OutstandingData}
use Rattle.pd_protocol.proofs.Resent.{IsOfSent}
use Rattle.pd_source.specs.Record.{SourceData, SourceSettings}
use Rattle.pd_source.specs.Step as source
use Rattle.pd_source.specs.declared.kinds.Stimulus.TheVariants as source_told
use Rattle.pd_sink.specs.Record.{SinkRecord}
use Rattle.pd_sink.specs.Step as sink
use Rattle.pd_sink.specs.declared.kinds.Stimulus.TheVariants as sink_told
use Rattle.pd_plug.specs.declared.kinds.Stimulus.TheVariants as plug_told
use Rattle.pd_setup.specs.Events.{PortEventKind}
use Rattle.pd_setup.specs.declared.event.EventKind.TheVariants.{Attach, Detach, Demand, Lose, Damage, GetSource, GetSink}
use Rattle.pd_setup.specs.declared.event.Happening.{Happening}
use Rattle.pd_setup.specs.declared.event.Happening.TheVariants.{Port, Budget}
use Rattle.pd_setup.specs.Settings.{SettingsData}
use Rattle.pd_line.specs.declared.notes.Fault.TheVariants.{Ignored}
use Rattle.pd_line.specs.declared.disturbances.Disturbance.{Disturbance}
use Rattle.pd_line.specs.declared.disturbances.Disturbance.TheVariants.{Lost, Damaged}
use Rattle.pd_line.specs.declared.port_parts.Line.{Line}
use Rattle.pd_line.specs.declared.port_parts.Line.TheVariants.{Idle, NoAnswer}
use Rattle.pd_line.specs.declared.port_step.PortStep.{PortStep}
use Rattle.pd_line.specs.Record.{nothing_attached}
use Rattle.pd_line.specs.PortStep.{layer_on, noted, plug_steps, sink_steps, source_steps, tells_timer, with_port}
use Rattle.pd_line.specs.Lines.{is_side, with_line, line_ends, line_starts}
use Rattle.pd_line.proofs.Busy.{leaves_line, sink_steps_line, source_steps_line, tells_timer_line}
use Rattle.pd_line.proofs.RulesKeep.{tells_attach_kept}
use Rattle.pd_port.proofs.Later.{portstep-settings}
use Rattle.pd_port.specs.declared.due.Due.{Due}
use Rattle.pd_port.specs.declared.due.What.{What}
use Rattle.pd_port.specs.declared.due.What.TheVariants as what
use Rattle.pd_port.specs.declared.entry.Entry.{Entry}
use Rattle.pd_port.specs.Happens.{detaches, disturbs, gets_source, gets_sink, happens_attached, happens_detached, shed, budget_changes}
use Rattle.pd_port.specs.Happens.{event_happens}
use Rattle.pd_port.specs.Port.{PortRecord, begun, entry_of, happens, portstep, record_after, source_settings, whole}
use Rattle.pd_why.specs.Laws.{HasSent, IsSentAgain, unanswered}
use Rattle.pd_why.specs.Wishes.{awaits, is_select}
use Rattle.pd_why.proofs.SinkSteps.{IsAsked, asked_next}
use Rattle.pd_why.proofs.SourceSteps.{IsOffered}
use Rattle.pd_why.proofs.LineSteps.{view, Sinks, goes_sinks, plug_same, sink_goes, sink_sinks, source_goes}
use Rattle.pd_why.proofs.RuleSteps as rules
use Rattle.pd_why.proofs.RuleSteps.{Kept, alike, choice, line_ends_kept}
use Rattle.pd_why.proofs.StartSteps.{StartFits, Fits, IsUnanswered, line_fits, none_fits, starts_begin}

-- ---- events

-- a step under way goes on, sends no Request and starts nothing
record Still (q : List ℕ) (w v : PortStep) : Type 0 where
  kept : Kept q w v
  start : v.start ≡ w.start

module _ (q : List ℕ) (t : ℕ) where
  noted_still : (id : ℕ) (w : PortStep) → Still q w (noted (Ignored id) w)
  unfolding noted
  noted_still id w = record { kept = alike q t w (noted (Ignored id) w) refl; start = refl }

  either : (b : Bool) (w v u : PortStep) → Still q w v → Still q w u → Still q w (if b then v else u)
  either true w v u h k = h
  either false w v u h k = k

  asks_to_off : (b : Bool) → not b && false ≡ false
  asks_to_off true = refl
  asks_to_off false = refl

  detaches_still : (w : PortStep) → Still q w (detaches w)
  unfolding detaches nothing_attached
  detaches_still w = record {
    kept = record { request = λ h. tt; calm = asks_to_off (is_select w.port.sink.state); offer = λ h. tt };
    start = refl;
  }

  disturbs_still : (id : ℕ) (d : Disturbance) (w : PortStep) → Still q w (disturbs id d w)
  unfolding disturbs
  disturbs_still id d w =
      let v : PortStep = with_port (record w.port { disturbances = w.port.disturbances ++ d ∷ [] }) w in
      either (nat_lt (length w.port.disturbances) 8) w v (noted (Ignored id) w) (record { kept = alike q t w v refl; start = refl })
      (noted_still id w)

  attached_still : (id : ℕ) (k : PortEventKind) (w : PortStep) → Still q w (happens_attached id k t w)
  unfolding gets_source gets_sink
  attached_still id (Attach cable device) w = noted_still id w
  attached_still id Detach w = detaches_still w
  attached_still id (Demand mw) w =
      record { kept = sink_goes q t (sink_told.Demand mw) w refl; start = (sink_steps_line t (sink_told.Demand mw) w).start }
  attached_still id Lose w = disturbs_still id Lost w
  attached_still id (Damage d) w = disturbs_still id (Damaged d) w
  attached_still id GetSource w =
      either (sink.is_ready w.port.sink) w (sink_steps t sink_told.GetSource w) (noted (Ignored id) w)
      (record { kept = sink_goes q t sink_told.GetSource w refl; start = (sink_steps_line t sink_told.GetSource w).start })
      (noted_still id w)
  attached_still id GetSink w =
      either (source.is_ready w.port.source.record) w (source_steps t source_told.GetSink w) (noted (Ignored id) w)
      (record { kept = source_goes q t source_told.GetSink w; start = (source_steps_line t source_told.GetSink w).start })
      (noted_still id w)

  detached_still : (id : ℕ) (k : PortEventKind) (w : PortStep) → Still q w (happens_detached id k t w)
  detached_still id (Attach cable device) w =
      record { kept = rules.tells_attach_kept q t cable device w; start = (tells_attach_kept t (leaves_line t) tt cable device w).start }
  detached_still id k w = noted_still id w

  shed_still : (a : Option Answer) (w : PortStep) → Still q w (shed a t (record w { answer = None }))
  shed_still (Some (answers.Fits false)) w =
      let v : PortStep = record w { answer = None } in
      let h = source_goes q t source_told.Shed v in
      record {
        kept = record { request = h.request; calm = h.calm; offer = h.offer };
        start = (source_steps_line t source_told.Shed v).start;
      }
  shed_still a w = record { kept = alike q t w (record w { answer = None }) refl; start = refl }

  event_still : (h : Happening) (w : PortStep) → Still q w (event_happens h t w)
  unfolding budget_changes
  event_still (Port id k) w =
      either (is_some w.port.cable) w (happens_attached id k t w) (happens_detached id k t w) (attached_still id k w)
      (detached_still id k w)
  event_still Budget w = shed_still w.answer w

-- ---- what falls due

-- What has happened for what falls due, from a step that has begun: a Request that waits is the one that was sent last, what waits on the
-- source is of the offer that is being made, and what starts fits too.
record Happened (q : List ℕ) (again : Side → Contents → Type 0) (w v : PortStep) : Type 0 where
  sinks : Sinks q (view w) (view v)
  begun : StartFits (asked_next q w.port.sink v.port.sink) v.port.source again v.start

still_happened : (q : List ℕ) (again : Side → Contents → Type 0) (w v : PortStep) → w.start ≡ None → Kept q w v → v.start ≡ w.start →
    Happened q again w v
still_happened q again w v e h s = record {
  sinks = goes_sinks q (view w) (view v) h;
  begun = none_fits (asked_next q w.port.sink v.port.sink) v.port.source again v.start (s ∙ e);
}

timer_happened : (q : List ℕ) (again : Side → Contents → Type 0) (side : Side) (timer : Timer) (t : ℕ) (w : PortStep) → w.start ≡ None →
    Happened q again w (tells_timer side timer t w)
unfolding tells_timer
timer_happened q again Source timer t w e =
    still_happened q again w (source_steps t (source_told.Ended timer) w) e (source_goes q t (source_told.Ended timer) w)
    (source_steps_line t (source_told.Ended timer) w).start
timer_happened q again Sink timer t w e =
    let v = sink_steps t (sink_told.Ended timer) w in
    record {
      sinks = sink_sinks q t (sink_told.Ended timer) w;
      begun = none_fits (asked_next q w.port.sink v.port.sink) v.port.source again v.start
          ((sink_steps_line t (sink_told.Ended timer) w).start ∙ e);
    }
timer_happened q again Plug timer t w e =
    let v = plug_steps t (plug_told.Ended timer) w in
    still_happened q again w v e (alike q t w v (plug_same t (plug_told.Ended timer) w)) (tells_timer_line Plug timer t w).start

layers_stay : (side : Side) (c : Channel) (line : Line) (w : PortStep) → layer_on side c (with_line line w) ≡ layer_on side c w
unfolding with_line
layers_stay Source Sop line w = refl
layers_stay Source SopPrime line w = refl
layers_stay Sink c line w = refl
layers_stay Plug c line w = refl

still_unanswered : (again : Side → Contents → Type 0) (line : Line) (w : PortStep) → IsUnanswered again line w →
    IsUnanswered again line (with_line Idle w)
still_unanswered again (NoAnswer side p end) w h =
    subst (λ (l : LayerRecord). IsOfSent (again side) l.outstanding) (sym (layers_stay side p.channel Idle w)) h
still_unanswered again line w h = tt

line_happened : (q : List ℕ) (again : Side → Contents → Type 0) (t : ℕ) (w : PortStep) → IsUnanswered again w.port.line w →
    w.start ≡ None → Happened q again w (line_ends t w)
unfolding line_ends with_line
line_happened q again t w h e =
    let v = line_ends t w in
    record {
      sinks = goes_sinks q (view w) (view v) (line_ends_kept q t w);
      begun = line_fits (asked_next q w.port.sink v.port.sink) v.port.source again w.port.line t (with_line Idle w)
          (still_unanswered again w.port.line w h) e;
    }

-- where the line's time is over, what is outstanding may go out again
IsResent : (Side → Contents → Type 0) → What → PortStep → Type 0
IsResent again what.Line w = IsUnanswered again w.port.line w
IsResent again x w = Unit {0}

happened : (q : List ℕ) (again : Side → Contents → Type 0) (x : What) (t : ℕ) (w : PortStep) → IsResent again x w → w.start ≡ None →
    Happened q again w (happens x t w)
unfolding IsResent
happened q again (what.Event e) t w r n =
    let h = event_still q t e.happening w in still_happened q again w (happens (what.Event e) t w) n h.kept h.start
happened q again what.Line t w r n = line_happened q again t w r n
happened q again (what.Timer side timer) t w r n = timer_happened q again side timer t w n

-- what is outstanding has been sent by its side
sent_of : (T : Contents → Type 0) (l : LayerRecord) (o : Option OutstandingData) → l.outstanding ≡ o →
    ((p : Contents) → unanswered l ≡ Some p → T p) → IsOfSent T o
sent_of T l None e h = tt
sent_of T l (Some o) e h = h o.packet (ap (option_map (λ (x : OutstandingData). x.packet)) e)

has_sent : (s : SettingsData) (r : PortRecord) (a : Option Answer) (side : Side) (c : Channel) (p : Contents) →
    unanswered (layer_on side c (begun (whole s r) a)) ≡ Some p → HasSent side r p
has_sent s r a Source Sop p e = inl e
has_sent s r a Source SopPrime p e = inr e
has_sent s r a Sink c p e = e
has_sent s r a Plug c p e = e

is_own_side : (side : Side) → is_side side side ≡ true
is_own_side Source = refl
is_own_side Sink = refl
is_own_side Plug = refl

line_resent : (s : SettingsData) (r : PortRecord) (a : Option Answer) (line : Line) → r.line ≡ line →
    IsUnanswered (λ by p. IsSentAgain by what.Line r p) line (begun (whole s r) a)
line_resent s r a (NoAnswer side p end) e =
    let l = layer_on side p.channel (begun (whole s r) a) in
    sent_of (λ x. IsSentAgain side what.Line r x) l l.outstanding refl
    (λ x f. (ap (awaits side) e ∙ is_own_side side, has_sent s r a side p.channel x f))
line_resent s r a line e = tt

resent : (s : SettingsData) (r : PortRecord) (a : Option Answer) (x : What) →
    IsResent (λ by p. IsSentAgain by x r p) x (begun (whole s r) a)
unfolding IsResent
resent s r a what.Line = line_resent s r a r.line refl
resent s r a (what.Event e) = tt
resent s r a (what.Timer side timer) = tt

-- ---- the step

-- After a step of a port a Request that waits has the objects of the one that was sent last, and what waits on the source is of the offer
-- that is being made; a packet that starts is one sent again, or has these objects.
pub record Steps (q : List ℕ) (s : SettingsData) (r new : PortRecord) (d : Due) (e : Entry) : Type 0 where
  pub request : IsAsked (asked_next q r.sink new.sink) new.sink_waits
  pub offer : IsOffered (source_settings s) new.source new.source_waits
  pub begun : StartFits (asked_next q r.sink new.sink) (record { settings = source_settings s; «record» = new.source })
      (λ by p. IsSentAgain by d.what r p) e.start

pub port_steps : (q : List ℕ) (s : SettingsData) (r : PortRecord) (d : Due) (a : Option Answer) → IsAsked q r.sink_waits →
    IsOffered (source_settings s) r.source r.source_waits → Steps q s r (record_after s r d a) d (entry_of s r d a)
unfolding record_after entry_of portstep
port_steps q s r d a asked offered =
    let w : PortStep = begun (whole s r) a in
    let v : PortStep = happens d.what d.time w in
    let again : Side → Contents → Type 0 = λ by p. IsSentAgain by d.what r p in
    let u : PortStep = line_starts d.time v in
    let next : SinkRecord → List ℕ = λ k. asked_next q r.sink k in
    let h = happened q again d.what d.time w (resent s r a d.what) refl in
    let f : Fits (next v.port.sink) again v =
    record { request = h.sinks.request asked; offer = h.sinks.offer offered; begun = h.begun } in
    let b = starts_begin (next v.port.sink) again d.time v f in
    let set : u.port.source.settings ≡ source_settings s = portstep-settings (whole s r) d a in
    let of : SourceSettings → SourceData = λ z. record { settings = z; «record» = u.port.source.record } in
    record {
      request = subst (λ (k : SinkRecord). IsAsked (next k) u.port.sink_waits) (sym b.sink) b.fits.request;
      offer = subst (λ (z : SourceSettings). IsOffered z u.port.source.record u.port.source_waits) set b.fits.offer;
      begun = subst (λ (k : SinkRecord). StartFits (next k) (of (source_settings s)) again u.start) (sym b.sink)
          (subst (λ (z : SourceSettings). StartFits (next v.port.sink) (of z) again u.start) set b.fits.begun);
    }
