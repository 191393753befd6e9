-- Each rule of the line leaves what waits as it should be, and sends no Request.
use Rattle.std.proofs.Common.{◌≡◌, ℕ, ◌+◌, Bool, true, false, if◌then◌else◌, List, [], ◌∷◌, Option, None, Some, refl, ◌∙◌}
use Rattle.pd_symbols.specs.declared.channel.Channel.TheVariants.{Sop, SopPrime}
use Rattle.pd_header.specs.declared.side.Side.{Side}
use Rattle.pd_header.specs.declared.side.Side.TheVariants.{Source, Sink, Plug}
use Rattle.pd_header.specs.declared.kind.Kind.{Kind}
use Rattle.pd_header.specs.declared.kind.Kind.TheVariants as kind
use Rattle.pd_header.specs.Header.{id_of}
use Rattle.pd_header.specs.Kinds.{kind_of_header}
use Rattle.pd_identity.specs.declared.Cable.{Cable}
use Rattle.pd_packet.specs.Contents.{Contents}
use Rattle.pd_packet.specs.Hearing.{heard}
use Rattle.pd_packet.specs.declared.fate.Fate.{Fate}
use Rattle.pd_protocol.specs.Layer as layer
use Rattle.pd_protocol.specs.LayerRecord.{LayerRecord}
use Rattle.pd_protocol.specs.declared.layer.LayerAct.{LayerAct}
use Rattle.pd_protocol.specs.declared.layer.LayerAct.TheVariants as answer
use Rattle.pd_setup.specs.Sinks.{SinkData}
use Rattle.pd_source.specs.declared.kinds.Sent.{Sent}
use Rattle.pd_source.specs.declared.kinds.Sent.TheVariants as sent
use Rattle.pd_source.specs.declared.kinds.Stimulus.TheVariants as source_told
use Rattle.pd_sink.specs.declared.kinds.Stimulus.TheVariants as sink_told
use Rattle.pd_plug.specs.declared.kinds.Stimulus.TheVariants as plug_told
use Rattle.pd_line.specs.declared.notes.Fault.{Fault}
use Rattle.pd_line.specs.declared.notes.Fault.TheVariants.{NoGoodCrc}
use Rattle.pd_line.specs.declared.disturbances.Disturbance.{Disturbance}
use Rattle.pd_line.specs.declared.port_parts.Line.{Line}
use Rattle.pd_line.specs.declared.port_parts.Line.TheVariants.{Idle, Message, Pause, GoodCrc, NoAnswer, HardReset}
use Rattle.pd_line.specs.declared.port_parts.Waiting.TheVariants as waits
use Rattle.pd_line.specs.declared.port_step.PortStep.{PortStep}
use Rattle.pd_line.specs.Told.{source_hears_as, sink_hears_as, plug_hears_as, sent_as}
use Rattle.pd_line.specs.PortStep.{with_port, noted, wait, layer_on, on_layer, good_crc_on, timed_out_on}
use Rattle.pd_line.specs.PortStep.{received_on, reset_on, sink_steps, plug_steps, source_steps, tells_sent, tells_failed, tells_message}
use Rattle.pd_line.specs.PortStep.{tells_reset, tells_attach}
use Rattle.pd_line.specs.Lines.{with_line, started, receiver, hears, rest_of_time_out}
use Rattle.pd_line.specs.Lines.{taken_from, taken, packet_starts, good_crc_starts, message_heard, message_ends}
use Rattle.pd_line.specs.Lines.{told_sent, acknowledged, told_message, goes_up, good_crc_ends, after_time_out, times_out}
use Rattle.pd_line.specs.Lines.{is_side, waiting_dropped, layers_reset, hears_reset, all_hear_reset, hard_reset_ends}
use Rattle.pd_line.specs.Lines.{line_ends, line_ends_at}
use Rattle.pd_sink.proofs.Requests.{is_ended}
use Rattle.pd_why.proofs.LineSteps.{view, Goes, same, joins, noted_same, layer_same, reset_same, line_same, plug_same}
use Rattle.pd_why.proofs.LineSteps.{sink_goes, source_goes}

hears_none_ended : (k : Kind) (objects : List ℕ) → is_ended (sink_hears_as k objects) ≡ false
hears_none_ended kind.SourceCapabilities objects = refl
hears_none_ended kind.Accept objects = refl
hears_none_ended kind.Reject objects = refl
hears_none_ended kind.Wait objects = refl
hears_none_ended kind.PsRdy objects = refl
hears_none_ended kind.GetSinkCap objects = refl
hears_none_ended kind.SoftReset objects = refl
hears_none_ended k objects = refl

-- from one step under way to another
abbrev pub Kept : List ℕ → PortStep → PortStep → Type 0
Kept q w v = Goes q (view w) (view v)

module _ (q : List ℕ) (t : ℕ) where
  pub alike : (w v : PortStep) → view v ≡ view w → Kept q w v
  alike w v e = same q (view w) (view v) e

  pub chain : (w v u : PortStep) → Kept q w v → Kept q v u → Kept q w u
  chain w v u h k = joins q (view w) (view v) (view u) h k

  pub choice : (b : Bool) (w f g : PortStep) → Kept q w f → Kept q w g → Kept q w (if b then f else g)
  choice true w f g h k = h
  choice false w f g h k = k

  dropped : (side : Side) (w : PortStep) → Kept q w (wait side waits.Nothing w)
  unfolding wait
  dropped Source w =
      let h = alike w w refl in record { request = h.request; calm = h.calm; offer = λ p. tt }
  dropped Sink w =
      let h = alike w w refl in record { request = λ p. tt; calm = h.calm; offer = h.offer }
  dropped Plug w = alike w (wait Plug waits.Nothing w) refl

  tells_sent_kept : (side : Side) (m : Sent) (w : PortStep) → Kept q w (tells_sent side m t w)
  unfolding tells_sent
  tells_sent_kept Source m w = source_goes q t (source_told.Sent m) w
  tells_sent_kept Sink m w = sink_goes q t sink_told.Sent w refl
  tells_sent_kept Plug m w = alike w (plug_steps t plug_told.Sent w) (plug_same t plug_told.Sent w)

  tells_failed_kept : (side : Side) (w : PortStep) → Kept q w (tells_failed side t w)
  unfolding tells_failed
  tells_failed_kept Source w = source_goes q t source_told.Failed w
  tells_failed_kept Sink w = sink_goes q t sink_told.Failed w refl
  tells_failed_kept Plug w = alike w (plug_steps t plug_told.Failed w) (plug_same t plug_told.Failed w)

  tells_message_kept : (side : Side) (p : Contents) (w : PortStep) → Kept q w (tells_message side p t w)
  unfolding tells_message
  tells_message_kept Source p w = source_goes q t (source_hears_as (kind_of_header p.header) p.header p.objects) w
  tells_message_kept Sink p w =
      sink_goes q t (sink_hears_as (kind_of_header p.header) p.objects) w (hears_none_ended (kind_of_header p.header) p.objects)
  tells_message_kept Plug p w =
      let x = plug_hears_as (kind_of_header p.header) p.objects in alike w (plug_steps t x w) (plug_same t x w)

  tells_reset_kept : (side : Side) (w : PortStep) → Kept q w (tells_reset side t w)
  unfolding tells_reset
  tells_reset_kept Source w = source_goes q t source_told.HardReset w
  tells_reset_kept Sink w = sink_goes q t sink_told.HardReset w refl
  tells_reset_kept Plug w = alike w (plug_steps t plug_told.HardReset w) (plug_same t plug_told.HardReset w)

  pub tells_attach_kept : (cable : Cable) (device : SinkData) (w : PortStep) → Kept q w (tells_attach cable device t w)
  unfolding tells_attach
  tells_attach_kept cable device w =
      let a : PortStep = with_port (record w.port { cable = Some cable }) w in
      let b : PortStep = source_steps t source_told.Attach a in
      let c : PortStep = sink_steps t (sink_told.Attach device) b in
      let d : PortStep = plug_steps t (plug_told.Attach cable) c in
      chain w b d (source_goes q t source_told.Attach a)
      (chain b c d (sink_goes q t (sink_told.Attach device) b refl) (alike c d (plug_same t (plug_told.Attach cable) c)))

  -- what starts leaves it
  pub packet_same : (side : Side) (p : Contents) (w : PortStep) → view (packet_starts side p t w) ≡ view w
  unfolding packet_starts started with_line taken
  packet_same side p w = by_row w.port.disturbances where
    by_row : (row : List Disturbance) → view (taken_from row w).0 ≡ view w
    by_row [] = refl
    by_row (d ∷ rest) = refl

  pub good_crc_same : (side : Side) (p : Contents) (w : PortStep) → view (good_crc_starts side p t w) ≡ view w
  unfolding good_crc_starts started with_line taken
  good_crc_same side p w = by_row w.port.disturbances where
    by_row : (row : List Disturbance) → view (taken_from row w).0 ≡ view w
    by_row [] = refl
    by_row (d ∷ rest) = refl

  heard_same : (side : Side) (p : Contents) (o : Option Contents) (w : PortStep) → view (message_heard side p t o w) ≡ view w
  heard_same side p None w = line_same _ w
  heard_same side p (Some r) w = line_same _ w

  message_ends_kept : (side : Side) (p : Contents) (fate : Fate) (w : PortStep) → Kept q w (message_ends side p fate t w)
  unfolding message_ends
  message_ends_kept side p fate w =
      let o = if hears (receiver side p.channel) w then heard p fate else None in
      alike w (message_heard side p t o w) (heard_same side p o w)

  told_sent_kept : (side : Side) (p : Contents) (a : LayerAct) (w : PortStep) → Kept q w (told_sent side p t a w)
  told_sent_kept side p answer.Sent w = tells_sent_kept side (sent_as (kind_of_header p.header)) w
  told_sent_kept side p a w = alike w w refl

  acknowledged_kept : (side : Side) (p : Contents) (a : Option Contents) (w : PortStep) → Kept q w (acknowledged side p t a w)
  unfolding good_crc_on
  acknowledged_kept side p None w =
      let line : Line = NoAnswer side p (t + rest_of_time_out) in alike w (with_line line w) (line_same line w)
  acknowledged_kept side p (Some a) w =
      let call : LayerRecord → LayerRecord × LayerAct = λ l. layer.good_crc l (id_of a.header) in
      let r = on_layer side p.channel call w in
      chain w r.0 (told_sent side p t r.1 r.0) (alike w r.0 (layer_same side p.channel (call (layer_on side p.channel w)).0 w))
      (told_sent_kept side p r.1 r.0)

  told_message_kept : (side : Side) (p : Contents) (a : LayerAct) (w : PortStep) → Kept q w (told_message side p t a w)
  told_message_kept side p answer.Up w = tells_message_kept side p w
  told_message_kept side p a w = alike w w refl

  goes_up_kept : (side : Side) (p : Contents) (w : PortStep) → Kept q w (goes_up side p t w)
  unfolding goes_up received_on
  goes_up_kept side p w =
      let call : LayerRecord → LayerRecord × LayerAct = λ l. layer.received l p.header in
      let r = on_layer side p.channel call w in
      chain w r.0 (told_message side p t r.1 r.0) (alike w r.0 (layer_same side p.channel (call (layer_on side p.channel w)).0 w))
      (told_message_kept side p r.1 r.0)

  good_crc_ends_kept : (side : Side) (p a : Contents) (fate : Fate) (w : PortStep) → Kept q w (good_crc_ends side p a fate t w)
  unfolding good_crc_ends
  good_crc_ends_kept side p a fate w =
      let v = acknowledged side p t (heard a fate) w in
      chain w v (goes_up (receiver side p.channel) p t v) (acknowledged_kept side p (heard a fate) w)
      (goes_up_kept (receiver side p.channel) p v)

  after_time_out_kept : (side : Side) (p : Contents) (a : LayerAct) (w : PortStep) → Kept q w (after_time_out side p t a w)
  after_time_out_kept side p (answer.Retry r) w = alike w (packet_starts side r t w) (packet_same side r w)
  after_time_out_kept side p answer.Failed w =
      let f : Fault = NoGoodCrc side (kind_of_header p.header) in
      chain w (noted f w) (tells_failed side t (noted f w)) (alike w (noted f w) (noted_same f w)) (tells_failed_kept side (noted f w))
  after_time_out_kept side p a w = alike w w refl

  times_out_kept : (side : Side) (p : Contents) (w : PortStep) → Kept q w (times_out side p t w)
  unfolding times_out timed_out_on
  times_out_kept side p w =
      let r = on_layer side p.channel layer.timed_out w in
      chain w r.0 (after_time_out side p t r.1 r.0)
      (alike w r.0 (layer_same side p.channel (layer.timed_out (layer_on side p.channel w)).0 w)) (after_time_out_kept side p r.1 r.0)

  waiting_dropped_kept : (w : PortStep) → Kept q w (waiting_dropped w)
  unfolding waiting_dropped
  waiting_dropped_kept w =
      let a : PortStep = wait Source waits.Nothing w in
      let b : PortStep = wait Sink waits.Nothing a in
      chain w a (wait Plug waits.Nothing b) (dropped Source w) (chain a b (wait Plug waits.Nothing b) (dropped Sink a) (dropped Plug b))

  layers_reset_same : (w : PortStep) → view (layers_reset w) ≡ view w
  unfolding layers_reset
  layers_reset_same w =
      let a : PortStep = reset_on Source Sop w in
      let b : PortStep = reset_on Sink Sop a in
      let c : PortStep = reset_on Source SopPrime b in
      reset_same Plug SopPrime c ∙ reset_same Source SopPrime b ∙ reset_same Sink Sop a ∙ reset_same Source Sop w

  hears_reset_kept : (sender side : Side) (w : PortStep) → Kept q w (hears_reset sender side t w)
  unfolding hears_reset
  hears_reset_kept sender side w =
      choice (is_side side sender) w w (if hears side w then tells_reset side t w else w) (alike w w refl)
      (choice (hears side w) w (tells_reset side t w) w (tells_reset_kept side w) (alike w w refl))

  hard_reset_ends_kept : (sender : Side) (w : PortStep) → Kept q w (hard_reset_ends sender t w)
  unfolding hard_reset_ends all_hear_reset
  hard_reset_ends_kept sender w =
      let a : PortStep = waiting_dropped w in
      let b : PortStep = layers_reset a in
      let c : PortStep = tells_sent sender sent.Other t b in
      let d : PortStep = hears_reset sender Source t c in
      let e : PortStep = hears_reset sender Sink t d in
      let f : PortStep = hears_reset sender Plug t e in
      chain w a f (waiting_dropped_kept w) (chain a b f (alike a b (layers_reset_same a))
      (chain b c f (tells_sent_kept sender sent.Other b) (chain c d f (hears_reset_kept sender Source c)
      (chain d e f (hears_reset_kept sender Sink d) (hears_reset_kept sender Plug e)))))

  line_ends_at_kept : (line : Line) (w : PortStep) → Kept q w (line_ends_at line t w)
  line_ends_at_kept Idle w = alike w w refl
  line_ends_at_kept (Message side p fate end) w = message_ends_kept side p fate w
  line_ends_at_kept (Pause side p end) w = alike w (good_crc_starts side p t w) (good_crc_same side p w)
  line_ends_at_kept (GoodCrc side p a fate end) w = good_crc_ends_kept side p a fate w
  line_ends_at_kept (NoAnswer side p end) w = times_out_kept side p w
  line_ends_at_kept (HardReset side end) w = hard_reset_ends_kept side w

  pub line_ends_kept : (w : PortStep) → Kept q w (line_ends t w)
  unfolding line_ends
  line_ends_kept w =
      let v : PortStep = with_line Idle w in
      chain w v (line_ends_at w.port.line t v) (alike w v (line_same Idle w)) (line_ends_at_kept w.port.line v)
