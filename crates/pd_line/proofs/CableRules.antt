-- Each rule of the line keeps what reaches the source to the attached cable.
use Rattle.std.proofs.Common.{◌≡◌, ◌⊎◌, inl, inr, ℕ, ◌+◌, Bool, true, false, if◌then◌else◌, Option, Some, None, Result, Ok, Err}
use Rattle.std.proofs.Common.{refl, sym, subst, List, [], ◌∷◌}
use Rattle.pd_symbols.specs.declared.channel.Channel.{Channel}
use Rattle.pd_symbols.specs.declared.channel.Channel.TheVariants.{Sop, SopPrime}
use Rattle.pd_header.specs.declared.side.Side.{Side}
use Rattle.pd_header.specs.declared.side.Side.TheVariants.{Source, Sink, Plug}
use Rattle.pd_header.specs.Header.{id_of}
use Rattle.pd_header.specs.Kinds.{kind_of_header}
use Rattle.pd_identity.specs.declared.Cable.{Cable}
use Rattle.pd_packet.specs.Contents.{Contents}
use Rattle.pd_packet.specs.Hearing.{heard}
use Rattle.pd_packet.specs.declared.fate.Fate.{Fate}
use Rattle.pd_protocol.specs.Messages.{MessageData, packet_of}
use Rattle.pd_protocol.specs.Layer as layer
use Rattle.pd_protocol.specs.LayerRecord.{LayerRecord}
use Rattle.pd_protocol.specs.declared.layer.LayerAct.{LayerAct}
use Rattle.pd_protocol.specs.declared.layer.LayerAct.TheVariants as answer
use Rattle.pd_protocol.proofs.Resent.{IsOfSent, IsOfRetry, IsOfPacket, reset_sent, received_sent, good_crc_sent, timed_out_sent}
use Rattle.pd_protocol.proofs.Resent.{submit_sent}
use Rattle.pd_timers.specs.declared.Timer.{Timer}
use Rattle.pd_source.specs.Step as source
use Rattle.pd_source.specs.declared.kinds.Act.{Act as SourceAct}
use Rattle.pd_source.specs.declared.kinds.Act.TheVariants as source_act_is
use Rattle.pd_source.specs.declared.kinds.Sent.{Sent}
use Rattle.pd_source.specs.declared.kinds.Sent.TheVariants as sent
use Rattle.pd_source.specs.declared.kinds.Stimulus.{Stimulus as SourceStimulus}
use Rattle.pd_source.specs.declared.kinds.Stimulus.TheVariants as source_told
use Rattle.pd_setup.specs.Sinks.{SinkData}
use Rattle.pd_sink.specs.Step as sink
use Rattle.pd_sink.specs.declared.kinds.Act.{Act as SinkAct}
use Rattle.pd_sink.specs.declared.kinds.Act.TheVariants as sink_act_is
use Rattle.pd_sink.specs.declared.kinds.Stimulus.{Stimulus as SinkStimulus}
use Rattle.pd_sink.specs.declared.kinds.Stimulus.TheVariants as sink_told
use Rattle.pd_plug.specs.Record.{PlugRecord}
use Rattle.pd_plug.specs.Step as plug
use Rattle.pd_plug.specs.declared.kinds.Act.{Act as PlugAct}
use Rattle.pd_plug.specs.declared.kinds.Act.TheVariants as plug_act_is
use Rattle.pd_plug.specs.declared.kinds.Stimulus.{Stimulus as PlugStimulus}
use Rattle.pd_plug.specs.declared.kinds.Stimulus.TheVariants as plug_told
use Rattle.pd_plug.specs.Laws.{SendOf}
use Rattle.pd_plug.proofs.Cables.{cable-stepped, acts_of-of}
use Rattle.pd_line.specs.declared.notes.Fault.{Fault}
use Rattle.pd_line.specs.declared.notes.Fault.TheVariants.{NoGoodCrc}
use Rattle.pd_line.specs.declared.notes.Start.{Start}
use Rattle.pd_line.specs.declared.disturbances.Disturbance.{Disturbance}
use Rattle.pd_line.specs.declared.port_parts.Line.{Line}
use Rattle.pd_line.specs.declared.port_parts.Line.TheVariants.{Idle, Message, Pause, GoodCrc, NoAnswer, HardReset}
use Rattle.pd_line.specs.declared.port_parts.Waiting.{Waiting}
use Rattle.pd_line.specs.declared.port_parts.Waiting.TheVariants as waits
use Rattle.pd_line.specs.declared.port_step.PortStep.{PortStep}
use Rattle.pd_line.specs.Cables.{TellsOn, WaitsToTell, LineTells}
use Rattle.pd_line.specs.Told.{plug_hears_as, source_hears_as, sink_hears_as, sink_fault, source_fault, sink_message, plug_message}
use Rattle.pd_line.specs.PortStep.{with_port, noted, wait, layer_on, with_layer, submit_on, good_crc_on, timed_out_on}
use Rattle.pd_line.specs.PortStep.{received_on, reset_on, sink_act, sink_acts, sink_steps, plug_acts, plug_steps, source_act}
use Rattle.pd_line.specs.PortStep.{source_acts, source_after, source_steps, tells_sent, tells_failed, tells_message, tells_reset}
use Rattle.pd_line.specs.PortStep.{tells_timer, tells_attach}
use Rattle.pd_line.specs.Lines.{lasts, with_line, started, receiver, hears, revision_on, taken_from, taken, packet_starts}
use Rattle.pd_line.specs.Lines.{good_crc_starts, message_heard, message_ends, told_sent, acknowledged, told_message, goes_up}
use Rattle.pd_line.specs.Lines.{good_crc_ends, after_time_out, times_out, is_side, waiting_dropped, layers_reset, hears_reset}
use Rattle.pd_line.specs.Lines.{all_hear_reset, hard_reset_ends, line_ends_at, line_ends, submitted, message_starts}
use Rattle.pd_line.specs.Lines.{hard_reset_starts, waiting_starts, waiting_on, side_starts, is_idle, is_waiting, line_starts}
use Rattle.pd_line.specs.Lines.{channel_for}
use Rattle.pd_line.proofs.Cables.{KnownBefore, KeepsCable, hears_keeps, heard_on, none_waits, none_again, none_line, sink_tells}
use Rattle.pd_line.proofs.Cables.{plug_tells, packet_tells, sent_by, by_sent, source_sent, On}

module _ (cable : Option Cable) (t : ℕ) where
  line_on : (line : Line) (w : PortStep) → LineTells cable line → On cable w → On cable (with_line line w)
  unfolding with_line
  line_on line w l h =
      record {
        attached = h.attached;
        known = h.known;
        plug_waits = h.plug_waits;
        sink_waits = h.sink_waits;
        plug_sent = h.plug_sent;
        sink_sent = h.sink_sent;
        line = l;
      }

  sink_waits_on : (x : Waiting) (w : PortStep) → WaitsToTell cable x → On cable w → On cable (wait Sink x w)
  unfolding wait
  sink_waits_on x w k h =
      record {
        attached = h.attached;
        known = h.known;
        plug_waits = h.plug_waits;
        sink_waits = k;
        plug_sent = h.plug_sent;
        sink_sent = h.sink_sent;
        line = h.line;
      }

  plug_waits_on : (x : Waiting) (w : PortStep) → WaitsToTell cable x → On cable w → On cable (wait Plug x w)
  unfolding wait
  plug_waits_on x w k h =
      record {
        attached = h.attached;
        known = h.known;
        plug_waits = k;
        sink_waits = h.sink_waits;
        plug_sent = h.plug_sent;
        sink_sent = h.sink_sent;
        line = h.line;
      }

  source_waits_on : (x : Waiting) (w : PortStep) → On cable w → On cable (wait Source x w)
  unfolding wait
  source_waits_on x w h = h

  nothing_waits_on : (side : Side) (w : PortStep) → On cable w → On cable (wait side waits.Nothing w)
  nothing_waits_on Source w h = source_waits_on waits.Nothing w h
  nothing_waits_on Sink w h = sink_waits_on waits.Nothing w tt h
  nothing_waits_on Plug w h = plug_waits_on waits.Nothing w tt h

  pub noted_on : (f : Fault) (w : PortStep) → On cable w → On cable (noted f w)
  unfolding noted
  noted_on f w h = h

  -- what a layer has sent, and the layer after a call
  sent_on : (side : Side) (c : Channel) (w : PortStep) → On cable w → IsOfSent (TellsOn cable side) (layer_on side c w).outstanding
  sent_on Source c w h = source_sent cable (layer_on Source c w).outstanding
  sent_on Sink c w h = sent_by cable Sink w.port.sink_sop.outstanding h.sink_sent
  sent_on Plug c w h = sent_by cable Plug w.port.plug_sop_prime.outstanding h.plug_sent

  layer_is_on : (side : Side) (c : Channel) (l : LayerRecord) (w : PortStep) →
      IsOfSent (TellsOn cable side) l.outstanding → On cable w → On cable (with_layer side c l w)
  layer_is_on Source Sop l w k h = h
  layer_is_on Source SopPrime l w k h = h
  layer_is_on Sink c l w k h =
      record {
        attached = h.attached;
        known = h.known;
        plug_waits = h.plug_waits;
        sink_waits = h.sink_waits;
        plug_sent = h.plug_sent;
        sink_sent = by_sent cable Sink l.outstanding k;
        line = h.line;
      }
  layer_is_on Plug c l w k h =
      record {
        attached = h.attached;
        known = h.known;
        plug_waits = h.plug_waits;
        sink_waits = h.sink_waits;
        plug_sent = by_sent cable Plug l.outstanding k;
        sink_sent = h.sink_sent;
        line = h.line;
      }

  reset_is_on : (side : Side) (c : Channel) (w : PortStep) → On cable w → On cable (reset_on side c w)
  unfolding reset_on
  reset_is_on side c w h = layer_is_on side c _ w (reset_sent (TellsOn cable side) (layer_on side c w)) h

  -- the engines' acts and steps
  sink_act_on : (a : SinkAct) (w : PortStep) → On cable w → On cable (sink_act a w)
  sink_act_on sink_act_is.DropWaiting w h = sink_waits_on waits.Nothing w tt h
  sink_act_on sink_act_is.ResetLayer w h = reset_is_on Sink Sop w h
  sink_act_on (sink_act_is.Note n) w h = noted_on (sink_fault n) w h
  sink_act_on (sink_act_is.Send s) w h = sink_waits_on (waits.Message (sink_message s)) w (sink_tells cable s) h
  sink_act_on sink_act_is.SendHardReset w h = sink_waits_on waits.HardReset w tt h

  sink_acts_on : (rest : List SinkAct) (w : PortStep) → On cable w → On cable (sink_acts rest w)
  sink_acts_on [] w h = h
  sink_acts_on (a ∷ rest) w h = sink_acts_on rest (sink_act a w) (sink_act_on a w h)

  pub sink_steps_on : (x : SinkStimulus) (w : PortStep) → On cable w → On cable (sink_steps t x w)
  unfolding sink_steps
  sink_steps_on x w h = sink_acts_on (sink.acts_of t x w.port.sink) (with_port (record w.port { sink = sink.stepped t x w.port.sink }) w) h

  plug_acts_on : (known : Option Cable) → (known ≡ None) ⊎ (known ≡ cable) → (rest : List PlugAct) (w : PortStep) →
      SendOf known rest → On cable w → On cable (plug_acts rest w)
  plug_acts_on known k [] w s h = h
  plug_acts_on known k (plug_act_is.DropWaiting ∷ rest) w s h =
      plug_acts_on known k rest (wait Plug waits.Nothing w) s (plug_waits_on waits.Nothing w tt h)
  plug_acts_on known k (plug_act_is.SendIdentity objects ∷ rest) w s h =
      let x : Waiting = waits.Message (plug_message objects.items) in
      plug_acts_on known k rest (wait Plug x w) s.1 (plug_waits_on x w (plug_tells cable known objects.items k s.0) h)

  plug_known_on : (r : PlugRecord) (w : PortStep) → (r.cable ≡ None) ⊎ (r.cable ≡ cable) → On cable w →
      On cable (with_port (record w.port { plug = r }) w)
  plug_known_on r w k h =
      record {
        attached = h.attached;
        known = k;
        plug_waits = h.plug_waits;
        sink_waits = h.sink_waits;
        plug_sent = h.plug_sent;
        sink_sent = h.sink_sent;
        line = h.line;
      }

  pub plug_knows_on : (x : PlugStimulus) (w : PortStep) → KnownBefore cable x w.port.plug → On cable w → On cable (plug_steps t x w)
  unfolding plug_steps
  plug_knows_on x w k h =
      let p = w.port.plug in
      let n : ((plug.stepped t x p).cable ≡ None) ⊎ ((plug.stepped t x p).cable ≡ cable) =
      subst (λ (c : Option Cable). (c ≡ None) ⊎ (c ≡ cable)) (sym (cable-stepped t x p)) k in
      plug_acts_on (plug.before_row x p).cable k (plug.acts_of t x p)
      (with_port (record w.port { plug = plug.stepped t x p }) w) (acts_of-of t x p)
      (plug_known_on (plug.stepped t x p) w n h)

  plug_steps_on : (x : PlugStimulus) (w : PortStep) → KeepsCable x w.port.plug → On cable w → On cable (plug_steps t x w)
  plug_steps_on x w e h = plug_knows_on x w (subst (λ (c : Option Cable). (c ≡ None) ⊎ (c ≡ cable)) (sym e) h.known) h

  source_act_on : (a : SourceAct) (w : PortStep) → On cable w → On cable (source_act t a w)
  source_act_on source_act_is.DropWaiting w h = source_waits_on _ w h
  source_act_on source_act_is.On w h = sink_steps_on sink_told.Vbus w h
  source_act_on source_act_is.Off w h = h
  source_act_on source_act_is.ResetLayer w h = reset_is_on Source Sop w h
  source_act_on (source_act_is.Note n) w h = noted_on (source_fault n) w h
  source_act_on (source_act_is.Send s) w h = source_waits_on _ w h
  source_act_on source_act_is.SendHardReset w h = source_waits_on _ w h

  source_acts_on : (rest : List SourceAct) (w : PortStep) → On cable w → On cable (source_acts t rest w)
  source_acts_on [] w h = h
  source_acts_on (a ∷ rest) w h = source_acts_on rest (source_act t a w) (source_act_on a w h)

  pub source_steps_on : (x : SourceStimulus) (w : PortStep) → On cable w → On cable (source_steps t x w)
  unfolding source_steps
  source_steps_on x w h = source_acts_on (source.acts_of w.port.source.settings t x w.answer w.port.source.record) (source_after t x w) h

  tells_sent_on : (side : Side) (m : Sent) (w : PortStep) → On cable w → On cable (tells_sent side m t w)
  unfolding tells_sent
  tells_sent_on Source m w h = source_steps_on (source_told.Sent m) w h
  tells_sent_on Sink m w h = sink_steps_on sink_told.Sent w h
  tells_sent_on Plug m w h = plug_steps_on plug_told.Sent w refl h

  tells_failed_on : (side : Side) (w : PortStep) → On cable w → On cable (tells_failed side t w)
  unfolding tells_failed
  tells_failed_on Source w h = source_steps_on source_told.Failed w h
  tells_failed_on Sink w h = sink_steps_on sink_told.Failed w h
  tells_failed_on Plug w h = plug_steps_on plug_told.Failed w refl h

  tells_message_on : (side : Side) (p : Contents) (w : PortStep) → On cable w → On cable (tells_message side p t w)
  unfolding tells_message
  tells_message_on Source p w h = source_steps_on (source_hears_as (kind_of_header p.header) p.header p.objects) w h
  tells_message_on Sink p w h = sink_steps_on (sink_hears_as (kind_of_header p.header) p.objects) w h
  tells_message_on Plug p w h =
      plug_steps_on (plug_hears_as (kind_of_header p.header) p.objects) w (hears_keeps (kind_of_header p.header) p.objects w.port.plug) h

  tells_reset_on : (side : Side) (w : PortStep) → On cable w → On cable (tells_reset side t w)
  unfolding tells_reset
  tells_reset_on Source w h = source_steps_on source_told.HardReset w h
  tells_reset_on Sink w h = sink_steps_on sink_told.HardReset w h
  tells_reset_on Plug w h = plug_steps_on plug_told.HardReset w refl h

  pub tells_timer_on : (side : Side) (timer : Timer) (w : PortStep) → On cable w → On cable (tells_timer side timer t w)
  unfolding tells_timer
  tells_timer_on Source timer w h = source_steps_on (source_told.Ended timer) w h
  tells_timer_on Sink timer w h = sink_steps_on (sink_told.Ended timer) w h
  tells_timer_on Plug timer w h = plug_steps_on (plug_told.Ended timer) w refl h

  -- the rules of the line
  taken_on : (row : List Disturbance) (w : PortStep) → On cable w → On cable (taken_from row w).0
  taken_on [] w h = h
  taken_on (d ∷ rest) w h = h

  starts_on : (s : Start) (line : Line) (w : PortStep) → LineTells cable line → On cable w → On cable (started s (with_line line w))
  unfolding started
  starts_on s line w l h = line_on line w l h

  packet_starts_on : (side : Side) (p : Contents) (w : PortStep) → TellsOn cable side p → On cable w → On cable (packet_starts side p t w)
  unfolding packet_starts taken
  packet_starts_on side p w k h =
      let r = taken_from w.port.disturbances w in
      starts_on _ (Message side p r.1 (t + lasts p)) r.0 k (taken_on w.port.disturbances w h)

  good_crc_starts_on : (side : Side) (p : Contents) (w : PortStep) → TellsOn cable side p → On cable w →
      On cable (good_crc_starts side p t w)
  unfolding good_crc_starts taken
  good_crc_starts_on side p w k h = starts_on _ _ (taken_from w.port.disturbances w).0 k (taken_on w.port.disturbances w h)

  message_heard_on : (side : Side) (p : Contents) (o : Option Contents) (w : PortStep) → TellsOn cable side p →
      ((q : Contents) → o ≡ Some q → TellsOn cable side q) →
      On cable w → On cable (message_heard side p t o w)
  message_heard_on side p None w k m h = line_on _ w k h
  message_heard_on side p (Some q) w k m h = line_on _ w (m q refl) h

  heard_by : (b : Bool) (side : Side) (p q : Contents) (fate : Fate) → TellsOn cable side p → (if b then heard p fate
      else None) ≡ Some q → TellsOn cable side q
  heard_by true side p q fate k e = heard_on cable side p q fate e k
  heard_by false side p q fate k e = absurd (cc)

  message_ends_on : (side : Side) (p : Contents) (fate : Fate) (w : PortStep) → TellsOn cable side p → On cable w →
      On cable (message_ends side p fate t w)
  unfolding message_ends
  message_ends_on side p fate w k h =
      let b = hears (receiver side p.channel) w in
      message_heard_on side p (if b then heard p fate else None) w k (λ q e. heard_by b side p q fate k e) h

  told_sent_on : (side : Side) (p : Contents) (a : LayerAct) (w : PortStep) → On cable w → On cable (told_sent side p t a w)
  told_sent_on side p answer.Sent w h = tells_sent_on side _ w h
  told_sent_on side p a w h = h

  acknowledged_on : (side : Side) (p : Contents) (a : Option Contents) (w : PortStep) → TellsOn cable side p →
      On cable w → On cable (acknowledged side p t a w)
  unfolding good_crc_on
  acknowledged_on side p None w k h = line_on _ w k h
  acknowledged_on side p (Some a) w k h =
      let l = layer_on side p.channel w in
      let r = layer.good_crc l (id_of a.header) in
      told_sent_on side p r.1 (with_layer side p.channel r.0 w)
      (layer_is_on side p.channel r.0 w (good_crc_sent (TellsOn cable side) l (id_of a.header) (sent_on side p.channel w h)) h)

  told_message_on : (side : Side) (p : Contents) (a : LayerAct) (w : PortStep) → On cable w → On cable (told_message side p t a w)
  told_message_on side p answer.Up w h = tells_message_on side p w h
  told_message_on side p a w h = h

  goes_up_on : (side : Side) (p : Contents) (w : PortStep) → On cable w → On cable (goes_up side p t w)
  unfolding goes_up received_on
  goes_up_on side p w h =
      let l = layer_on side p.channel w in
      let r = layer.received l p.header in
      told_message_on side p r.1 (with_layer side p.channel r.0 w)
      (layer_is_on side p.channel r.0 w (received_sent (TellsOn cable side) l p.header (sent_on side p.channel w h)) h)

  good_crc_ends_on : (side : Side) (p a : Contents) (fate : Fate) (w : PortStep) → TellsOn cable side p → On cable w →
      On cable (good_crc_ends side p a fate t w)
  unfolding good_crc_ends
  good_crc_ends_on side p a fate w k h =
      goes_up_on (receiver side p.channel) p (acknowledged side p t (heard a fate) w) (acknowledged_on side p (heard a fate) w k h)

  after_time_out_on : (side : Side) (p : Contents) (a : LayerAct) (w : PortStep) → IsOfRetry (TellsOn cable side) a →
      On cable w → On cable (after_time_out side p t a w)
  after_time_out_on side p (answer.Retry q) w k h = packet_starts_on side q w k h
  after_time_out_on side p answer.Failed w k h =
      let f : Fault = NoGoodCrc side (kind_of_header p.header) in tells_failed_on side (noted f w) (noted_on f w h)
  after_time_out_on side p a w k h = h

  times_out_on : (side : Side) (p : Contents) (w : PortStep) → On cable w → On cable (times_out side p t w)
  unfolding times_out timed_out_on
  times_out_on side p w h =
      let l = layer_on side p.channel w in
      let r = layer.timed_out l in
      let k = timed_out_sent (TellsOn cable side) l (sent_on side p.channel w h) in
      after_time_out_on side p r.1 (with_layer side p.channel r.0 w) k.1 (layer_is_on side p.channel r.0 w k.0 h)

  waiting_dropped_on : (w : PortStep) → On cable w → On cable (waiting_dropped w)
  unfolding waiting_dropped
  waiting_dropped_on w h =
      let a = wait Source waits.Nothing w in
      let b = wait Sink waits.Nothing a in
      nothing_waits_on Plug b (nothing_waits_on Sink a (nothing_waits_on Source w h))

  layers_reset_on : (w : PortStep) → On cable w → On cable (layers_reset w)
  unfolding layers_reset
  layers_reset_on w h =
      let a = reset_on Source Sop w in
      let b = reset_on Sink Sop a in
      let c = reset_on Source SopPrime b in
      reset_is_on Plug SopPrime c (reset_is_on Source SopPrime b (reset_is_on Sink Sop a (reset_is_on Source Sop w h)))

  if_hears : (b c : Bool) (side : Side) (w : PortStep) → On cable w → On cable (if b then w else (if c then tells_reset side t w else w))
  if_hears true c side w h = h
  if_hears false true side w h = tells_reset_on side w h
  if_hears false false side w h = h

  hears_reset_on : (sender side : Side) (w : PortStep) → On cable w → On cable (hears_reset sender side t w)
  unfolding hears_reset
  hears_reset_on sender side w h = if_hears (is_side side sender) (hears side w) side w h

  hard_reset_ends_on : (sender : Side) (w : PortStep) → On cable w → On cable (hard_reset_ends sender t w)
  unfolding hard_reset_ends all_hear_reset
  hard_reset_ends_on sender w h =
      let a = layers_reset (waiting_dropped w) in
      let b = tells_sent sender sent.Other t a in
      let c = hears_reset sender Source t b in
      let d = hears_reset sender Sink t c in
      hears_reset_on sender Plug d
      (hears_reset_on sender Sink c
      (hears_reset_on sender Source b
      (tells_sent_on sender sent.Other a (layers_reset_on (waiting_dropped w) (waiting_dropped_on w h)))))

  line_ends_at_on : (line : Line) (w : PortStep) → LineTells cable line → On cable w → On cable (line_ends_at line t w)
  line_ends_at_on Idle w k h = h
  line_ends_at_on (Message side p fate end) w k h = message_ends_on side p fate w k h
  line_ends_at_on (Pause side p end) w k h = good_crc_starts_on side p w k h
  line_ends_at_on (GoodCrc side p a fate end) w k h = good_crc_ends_on side p a fate w k h
  line_ends_at_on (NoAnswer side p end) w k h = times_out_on side p w h
  line_ends_at_on (HardReset side end) w k h = hard_reset_ends_on side w h

  pub line_ends_on : (w : PortStep) → On cable w → On cable (line_ends t w)
  unfolding line_ends
  line_ends_on w h = line_ends_at_on w.port.line (with_line Idle w) h.line (line_on Idle w tt h)

  -- what waits starts: what the source sends tells it nothing
  SideWaits : Side → Waiting → Type 0
  SideWaits Source x = Unit {0}
  SideWaits Sink x = WaitsToTell cable x
  SideWaits Plug x = WaitsToTell cable x

  side_waits : (side : Side) (w : PortStep) → On cable w → SideWaits side (waiting_on side w)
  unfolding SideWaits
  side_waits Source w h = tt
  side_waits Sink w h = h.sink_waits
  side_waits Plug w h = h.plug_waits

  side_packet : (side from : Side) (channel : Channel) (revision id : ℕ) (m : MessageData) →
      SideWaits side (waits.Message m) → TellsOn cable side (packet_of from channel revision id m)
  unfolding SideWaits
  side_packet Source from channel revision id m k = tt
  side_packet Sink from channel revision id m k = packet_tells cable Sink from channel revision id m k
  side_packet Plug from channel revision id m k = packet_tells cable Plug from channel revision id m k

  waits_on : (side : Side) (x : Waiting) (w : PortStep) → SideWaits side x → On cable w → On cable (wait side x w)
  unfolding SideWaits
  waits_on Source x w k h = source_waits_on x w h
  waits_on Sink x w k h = sink_waits_on x w k h
  waits_on Plug x w k h = plug_waits_on x w k h

  submitted_on : (side : Side) (m : MessageData) (r : Result Contents MessageData) (w : PortStep) →
      SideWaits side (waits.Message m) → IsOfPacket (TellsOn cable side) m r →
      On cable w → On cable (submitted side t (w, r))
  submitted_on side m (Ok p) w s k h = packet_starts_on side p w k h
  submitted_on side m (Err n) w s e h =
      waits_on side (waits.Message n) w (subst (λ (m : MessageData). SideWaits side (waits.Message m)) (sym e) s) h

  message_starts_on : (side : Side) (m : MessageData) (w : PortStep) → SideWaits side (waits.Message m) → On cable w →
      On cable (message_starts side m t w)
  unfolding message_starts submit_on
  message_starts_on side m w s h =
      let c = channel_for side m.kind in
      let l = layer_on side c w in
      let revision = revision_on side c w in
      let r = layer.submit l revision m in
      let k = submit_sent (TellsOn cable side) l revision m (sent_on side c w h)
      (side_packet side l.side l.channel revision l.next_id m s) in
      submitted_on side m r.1 (with_layer side c r.0 w) s k.1 (layer_is_on side c r.0 w k.0 h)

  waiting_starts_on : (side : Side) (x : Waiting) (w : PortStep) → SideWaits side x → On cable w → On cable (waiting_starts side t x w)
  unfolding hard_reset_starts
  waiting_starts_on side waits.Nothing w s h = h
  waiting_starts_on side (waits.Message m) w s h = message_starts_on side m w s h
  waiting_starts_on side waits.HardReset w s h = starts_on _ _ w tt h

  side_starts_on : (side : Side) (w : PortStep) → On cable w → On cable (side_starts side t w)
  unfolding side_starts
  side_starts_on side w h =
      waiting_starts_on side (waiting_on side w) (wait side waits.Nothing w) (side_waits side w h)
      (nothing_waits_on side w h)

  pub either_on : (b : Bool) (v w : PortStep) → On cable v → On cable w → On cable (if b then v else w)
  either_on true v w h k = h
  either_on false v w h k = k

  pub line_starts_on : (w : PortStep) → On cable w → On cable (line_starts t w)
  unfolding line_starts
  line_starts_on w h =
      let starts : (side : Side) → On cable (side_starts side t w) = λ side. side_starts_on side w h in
      either_on (is_idle w.port.line) _ w
      (either_on (is_waiting w.port.source_waits) (side_starts Source t w) _ (starts Source)
      (either_on (is_waiting w.port.sink_waits) (side_starts Sink t w) _ (starts Sink)
      (either_on (is_waiting w.port.plug_waits) (side_starts Plug t w) w (starts Plug) h))) h

-- a cable is attached where none was
pub tells_attach_on : (c : Cable) (device : SinkData) (t : ℕ) (w : PortStep) → On None w → On (Some c) (tells_attach c device t w)
unfolding tells_attach
tells_attach_on c device t w h =
    let cable = Some c in
    let v = with_port (record w.port { cable = cable }) w in
    let a : On cable v =
    record {
      attached = refl;
      known = elim h.known [ inl e ↦ inl e | inr e ↦ inl e ];
      plug_waits = none_waits cable w.port.plug_waits h.plug_waits;
      sink_waits = none_waits cable w.port.sink_waits h.sink_waits;
      plug_sent = none_again cable Plug w.port.plug_sop_prime.outstanding h.plug_sent;
      sink_sent = none_again cable Sink w.port.sink_sop.outstanding h.sink_sent;
      line = none_line cable w.port.line h.line;
    } in
    let b = source_steps t source_told.Attach v in
    let d = sink_steps t (sink_told.Attach device) b in
    plug_knows_on cable t (plug_told.Attach c) d (inr refl)
    (sink_steps_on cable t (sink_told.Attach device) b (source_steps_on cable t source_told.Attach v a))
