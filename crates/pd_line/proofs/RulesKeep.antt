-- What each part of a step keeps, the rules of the line keep, which are made of the parts.
use Rattle.std.proofs.Common.{◌≡◌, ℕ, ◌+◌, ◌<◌, Bool, true, false, if◌then◌else◌, Option, Some, None, Result, Ok, Err, refl}
use Rattle.std.proofs.Common.{List, [], ◌∷◌, arith, lit<}
use Rattle.pd_symbols.specs.declared.channel.Channel.{Channel}
use Rattle.pd_symbols.specs.declared.channel.Channel.TheVariants.{Sop, SopPrime}
use Rattle.pd_header.specs.declared.side.Side.{Side}
use Rattle.pd_header.specs.declared.side.Side.TheVariants.{Source, Sink, Plug}
use Rattle.pd_header.specs.Header.{id_of}
use Rattle.pd_header.specs.Kinds.{kind_of_header}
use Rattle.pd_identity.specs.declared.Cable.{Cable}
use Rattle.pd_packet.specs.Contents.{Contents}
use Rattle.pd_packet.specs.Timing.{hard_reset_duration}
use Rattle.pd_packet.specs.Hearing.{heard}
use Rattle.pd_packet.specs.declared.fate.Fate.{Fate}
use Rattle.pd_packet.specs.declared.fate.Fate.TheVariants.{Undisturbed}
use Rattle.pd_protocol.specs.Messages.{MessageData, acknowledges}
use Rattle.pd_protocol.specs.Layer as layer
use Rattle.pd_protocol.specs.LayerRecord.{LayerRecord}
use Rattle.pd_protocol.specs.declared.layer.LayerAct.{LayerAct}
use Rattle.pd_protocol.specs.declared.layer.LayerAct.TheVariants as answer
use Rattle.pd_source.specs.declared.kinds.Act.{Act as SourceAct}
use Rattle.pd_source.specs.declared.kinds.Act.TheVariants as source_act_is
use Rattle.pd_source.specs.declared.kinds.Sent.{Sent}
use Rattle.pd_source.specs.declared.kinds.Sent.TheVariants as sent
use Rattle.pd_source.specs.declared.kinds.Stimulus.TheVariants as source_told
use Rattle.pd_setup.specs.Sinks.{SinkData}
use Rattle.pd_sink.specs.Step as sink
use Rattle.pd_sink.specs.declared.kinds.Act.{Act as SinkAct}
use Rattle.pd_sink.specs.declared.kinds.Act.TheVariants as sink_act_is
use Rattle.pd_sink.specs.declared.kinds.Stimulus.{Stimulus as SinkStimulus}
use Rattle.pd_sink.specs.declared.kinds.Stimulus.TheVariants as sink_told
use Rattle.pd_plug.specs.Step as plug
use Rattle.pd_plug.specs.declared.kinds.Act.{Act as PlugAct}
use Rattle.pd_plug.specs.declared.kinds.Act.TheVariants as plug_act_is
use Rattle.pd_plug.specs.declared.kinds.Stimulus.{Stimulus as PlugStimulus}
use Rattle.pd_plug.specs.declared.kinds.Stimulus.TheVariants as plug_told
use Rattle.pd_line.specs.declared.notes.Fault.{Fault}
use Rattle.pd_line.specs.declared.notes.Fault.TheVariants.{NoGoodCrc}
use Rattle.pd_line.specs.declared.notes.Start.{Start}
use Rattle.pd_line.specs.declared.notes.Start.TheVariants as start
use Rattle.pd_line.specs.declared.disturbances.Disturbance.{Disturbance}
use Rattle.pd_line.specs.declared.port_parts.Line.{Line}
use Rattle.pd_line.specs.declared.port_parts.Line.TheVariants.{Idle, Message, Pause, GoodCrc, NoAnswer, HardReset}
use Rattle.pd_line.specs.declared.port_parts.Waiting.{Waiting}
use Rattle.pd_line.specs.declared.port_parts.Waiting.TheVariants as waits
use Rattle.pd_line.specs.declared.port_step.PortStep.{PortStep}
use Rattle.pd_line.specs.Told.{source_hears_as, sink_hears_as, plug_hears_as, sent_as, sink_fault, source_fault}
use Rattle.pd_line.specs.Later.{line_end}
use Rattle.pd_line.specs.PortStep.{with_port, noted, wait, layer_on, with_layer, on_layer, submit_on, good_crc_on, timed_out_on}
use Rattle.pd_line.specs.PortStep.{received_on, reset_on, sink_act, sink_acts, sink_steps, plug_act, plug_acts, plug_steps}
use Rattle.pd_line.specs.PortStep.{source_act, source_acts, source_steps, tells_sent, tells_failed, tells_message, tells_reset}
use Rattle.pd_line.specs.PortStep.{tells_attach}
use Rattle.pd_line.specs.Lines.{time_out, pause, rest_of_time_out, lasts, with_line, started, receiver, hears, revision_on}
use Rattle.pd_line.specs.Lines.{fate_of, taken_from, taken, packet_starts, good_crc_starts, message_heard, message_ends}
use Rattle.pd_line.specs.Lines.{told_sent, acknowledged, told_message, goes_up, good_crc_ends, after_time_out, times_out}
use Rattle.pd_line.specs.Lines.{is_side, waiting_dropped, layers_reset, hears_reset, all_hear_reset, hard_reset_ends}
use Rattle.pd_line.specs.Lines.{line_ends_at, submitted, message_starts, hard_reset_starts, waiting_starts, waiting_on}
use Rattle.pd_line.specs.Lines.{side_starts, is_idle, is_waiting, line_starts, channel_for}
use Rattle.pd_line.proofs.StepRelation.{sink_after, plug_after, EndsNoneOfSink, EndsNoneOfPlug, StepRelation, OfSource, of_any, is_later}
use Rattle.pd_line.proofs.StepRelation.{layer_blind, hears_blind, revision_blind, waiting_blind, source_hears_now, sink_hears_now}
use Rattle.pd_line.proofs.StepRelation.{plug_hears_now, lasts_positive, some_rest}

module _ (t : ℕ) (k : StepRelation t) where
  -- a choice keeps what both ways keep
  pub choice : (b : Bool) (f g : PortStep → PortStep) (w : PortStep) → k.holds w f → k.holds w g → k.holds w (λ z. if b then f z else g z)
  choice true f g w p q = p
  choice false f g w p q = q

  pub wait_kept : (side : Side) (x : Waiting) (w : PortStep) → k.holds w (wait side x)
  unfolding wait
  wait_kept Source x w = k.leaves (wait Source x) w refl refl
  wait_kept Sink x w = k.leaves (wait Sink x) w refl refl
  wait_kept Plug x w = k.leaves (wait Plug x) w refl refl

  pub noted_kept : (f : Fault) (w : PortStep) → k.holds w (noted f)
  unfolding noted
  noted_kept f w = k.leaves (noted f) w refl refl

  layer_kept : (side : Side) → OfSource k.touches side → (c : Channel) (l : LayerRecord) (w : PortStep) → k.holds w (with_layer side c l)
  layer_kept Source m c l w = k.layer m c l w
  layer_kept Sink m c l w = k.leaves (with_layer Sink c l) w refl refl
  layer_kept Plug m c l w = k.leaves (with_layer Plug c l) w refl refl

  -- a call of a layer, and then what goes by its answer
  called : (A : Type 0) (side : Side) → OfSource k.touches side → (c : Channel) (call : LayerRecord → LayerRecord × A)
      (g : A → PortStep → PortStep) (w : PortStep) →
      k.holds (on_layer side c call w).0 (g (on_layer side c call w).1) →
      k.holds w (λ z. g (on_layer side c call z).1 (on_layer side c call z).0)
  called A side m c call g w p =
      let l = layer_on side c w in
      k.reads LayerRecord (layer_on side c) (λ x z. g (call x).1 (with_layer side c (call x).0 z)) w (layer_blind side c w)
      (k.joins (with_layer side c (call l).0) (g (call l).1) w (layer_kept side m c (call l).0 w) p)

  reset_kept : (side : Side) → OfSource k.touches side → (c : Channel) (w : PortStep) → k.holds w (reset_on side c)
  unfolding reset_on
  reset_kept side m c w =
      k.reads LayerRecord (layer_on side c) (λ x. with_layer side c (layer.reset x)) w (layer_blind side c w)
      (layer_kept side m c (layer.reset (layer_on side c w)) w)

  sink_act_kept : (a : SinkAct) (w : PortStep) → k.holds w (sink_act a)
  sink_act_kept sink_act_is.DropWaiting w = wait_kept Sink _ w
  sink_act_kept sink_act_is.ResetLayer w = reset_kept Sink tt Sop w
  sink_act_kept (sink_act_is.Note n) w = noted_kept (sink_fault n) w
  sink_act_kept (sink_act_is.Send m) w = wait_kept Sink _ w
  sink_act_kept sink_act_is.SendHardReset w = wait_kept Sink _ w

  pub sink_acts_kept : (rest : List SinkAct) (w : PortStep) → k.holds w (sink_acts rest)
  sink_acts_kept [] w = k.nothing w
  sink_acts_kept (a ∷ rest) w = k.joins (sink_act a) (sink_acts rest) w (sink_act_kept a w) (sink_acts_kept rest (sink_act a w))

  pub sink_steps_kept : (x : SinkStimulus) (w : PortStep) → EndsNoneOfSink x w.port.sink → k.holds w (sink_steps t x)
  unfolding sink_steps
  sink_steps_kept x w e =
      let acts = sink.acts_of t x w.port.sink in
      k.reads (List SinkAct) (λ z. sink.acts_of t x z.port.sink) (λ a z. sink_acts a (sink_after t x z)) w refl
      (k.joins (sink_after t x) (sink_acts acts) w (k.sink x w e) (sink_acts_kept acts (sink_after t x w)))

  plug_act_kept : (a : PlugAct) (w : PortStep) → k.holds w (plug_act a)
  plug_act_kept plug_act_is.DropWaiting w = wait_kept Plug _ w
  plug_act_kept (plug_act_is.SendIdentity objects) w = wait_kept Plug _ w

  pub plug_acts_kept : (rest : List PlugAct) (w : PortStep) → k.holds w (plug_acts rest)
  plug_acts_kept [] w = k.nothing w
  plug_acts_kept (a ∷ rest) w = k.joins (plug_act a) (plug_acts rest) w (plug_act_kept a w) (plug_acts_kept rest (plug_act a w))

  pub plug_steps_kept : (x : PlugStimulus) (w : PortStep) → EndsNoneOfPlug x w.port.plug → k.holds w (plug_steps t x)
  unfolding plug_steps
  plug_steps_kept x w e =
      let acts = plug.acts_of t x w.port.plug in
      k.reads (List PlugAct) (λ z. plug.acts_of t x z.port.plug) (λ a z. plug_acts a (plug_after t x z)) w refl
      (k.joins (plug_after t x) (plug_acts acts) w (k.plug x w e) (plug_acts_kept acts (plug_after t x w)))

  source_act_kept : k.touches → (a : SourceAct) (w : PortStep) → k.holds w (source_act t a)
  source_act_kept m source_act_is.DropWaiting w = wait_kept Source _ w
  source_act_kept m source_act_is.On w = sink_steps_kept sink_told.Vbus w refl
  source_act_kept m source_act_is.Off w = k.nothing w
  source_act_kept m source_act_is.ResetLayer w = reset_kept Source m Sop w
  source_act_kept m (source_act_is.Note n) w = noted_kept (source_fault n) w
  source_act_kept m (source_act_is.Send s) w = wait_kept Source _ w
  source_act_kept m source_act_is.SendHardReset w = wait_kept Source _ w

  pub source_acts_kept : k.touches → (rest : List SourceAct) (w : PortStep) → k.holds w (source_acts t rest)
  source_acts_kept m [] w = k.nothing w
  source_acts_kept m (a ∷ rest) w =
      k.joins (source_act t a) (source_acts t rest) w (source_act_kept m a w) (source_acts_kept m rest (source_act t a w))

  pub tells_sent_kept : (side : Side) → OfSource k.steps side → (m : Sent) (w : PortStep) → k.holds w (tells_sent side m t)
  unfolding tells_sent
  tells_sent_kept Source s m w = k.source s (source_told.Sent m) w refl
  tells_sent_kept Sink s m w = sink_steps_kept sink_told.Sent w refl
  tells_sent_kept Plug s m w = plug_steps_kept plug_told.Sent w refl

  pub tells_failed_kept : (side : Side) → OfSource k.steps side → (w : PortStep) → k.holds w (tells_failed side t)
  unfolding tells_failed
  tells_failed_kept Source s w = k.source s source_told.Failed w refl
  tells_failed_kept Sink s w = sink_steps_kept sink_told.Failed w refl
  tells_failed_kept Plug s w = plug_steps_kept plug_told.Failed w refl

  pub tells_message_kept : (side : Side) → OfSource k.steps side → (p : Contents) (w : PortStep) → k.holds w (tells_message side p t)
  unfolding tells_message
  tells_message_kept Source s p w =
      k.source s (source_hears_as (kind_of_header p.header) p.header p.objects) w
      (source_hears_now (kind_of_header p.header) p.header p.objects w.port.source.record)
  tells_message_kept Sink s p w =
      sink_steps_kept (sink_hears_as (kind_of_header p.header) p.objects) w (sink_hears_now (kind_of_header p.header) p.objects w.port.sink)
  tells_message_kept Plug s p w =
      plug_steps_kept (plug_hears_as (kind_of_header p.header) p.objects) w (plug_hears_now (kind_of_header p.header) p.objects w.port.plug)

  pub tells_reset_kept : (side : Side) → OfSource k.steps side → (w : PortStep) → k.holds w (tells_reset side t)
  unfolding tells_reset
  tells_reset_kept Source s w = k.source s source_told.HardReset w refl
  tells_reset_kept Sink s w = sink_steps_kept sink_told.HardReset w refl
  tells_reset_kept Plug s w = plug_steps_kept plug_told.HardReset w refl

  pub attached_kept : (cable : Cable) (w : PortStep) → k.holds w (λ z. with_port (record z.port { cable = Some cable }) z)
  attached_kept cable w = k.leaves (λ z. with_port (record z.port { cable = Some cable }) z) w refl refl

  pub tells_attach_kept : k.steps → (cable : Cable) (device : SinkData) (w : PortStep) → k.holds w (tells_attach cable device t)
  unfolding tells_attach
  tells_attach_kept s cable device w =
      let a : PortStep → PortStep = λ z. with_port (record z.port { cable = Some cable }) z in
      let b : PortStep → PortStep = λ z. source_steps t source_told.Attach (a z) in
      let c : PortStep → PortStep = λ z. sink_steps t (sink_told.Attach device) (b z) in
      k.joins c (plug_steps t (plug_told.Attach cable)) w
      (k.joins b (sink_steps t (sink_told.Attach device)) w
      (k.joins a (source_steps t source_told.Attach) w (attached_kept cable w) (k.source s source_told.Attach (a w) refl))
      (sink_steps_kept (sink_told.Attach device) (b w) refl))
      (plug_steps_kept (plug_told.Attach cable) (c w) refl)

  -- a packet starts with its fate, and something follows that goes by it
  taken_kept : (g : Fate → PortStep → PortStep) (w : PortStep) → ((fate : Fate) (v : PortStep) → k.holds v (g fate)) →
      k.holds w (λ z. g (taken z).1 (taken z).0)
  unfolding taken
  taken_kept g w h =
      k.reads (List Disturbance) (λ z. z.port.disturbances) (λ row z. g (taken_from row z).1 (taken_from row z).0) w refl
      (by_row w.port.disturbances w) where
        by_row : (row : List Disturbance) (w : PortStep) → k.holds w (λ z. g (taken_from row z).1 (taken_from row z).0)
        by_row [] w = h Undisturbed w
        by_row (d ∷ rest) w =
            let f : PortStep → PortStep = λ z. with_port (record z.port { disturbances = rest }) z in
            k.joins f (g (fate_of d)) w (k.leaves f w refl refl) (h (fate_of d) (f w))

  -- something that lasts starts on the line
  lasting : k.lines → k.starts → (s : Start) (line : Line) (n : ℕ) → line_end line ≡ Some (t + n) → 0 < n → (w : PortStep) →
      k.holds w (λ z. started s (with_line line z))
  lasting l s x line n e h w =
      k.joins (with_line line) (started x) w (k.line l line w (rw e (is_later t n (line_end w.port.line) h)))
      (k.start s x (with_line line w))

  pub packet_starts_kept : k.lines → k.starts → (side : Side) (p : Contents) (w : PortStep) → k.holds w (packet_starts side p t)
  unfolding packet_starts
  packet_starts_kept l s side p w =
      taken_kept (λ fate z. started (start.Packet side p fate) (with_line (Message side p fate (t + lasts p)) z)) w
      (λ fate v. lasting l s (start.Packet side p fate) (Message side p fate (t + lasts p)) (lasts p) refl (lasts_positive _) v)

  pub good_crc_starts_kept : k.lines → k.starts → (side : Side) (p : Contents) (w : PortStep) → k.holds w (good_crc_starts side p t)
  unfolding good_crc_starts
  good_crc_starts_kept l s side p w =
      let hearer = receiver side p.channel in
      let a : ℕ → Contents = λ revision. acknowledges hearer revision p in
      let begins : ℕ → Fate → PortStep → PortStep =
      λ revision fate z. started (start.Packet hearer (a revision) fate)
      (with_line (GoodCrc side p (a revision) fate (t + lasts (a revision))) z) in
      let r = revision_on hearer p.channel w in
      k.reads ℕ (revision_on hearer p.channel) (λ revision z. begins revision (taken z).1 (taken z).0) w (revision_blind hearer p.channel w)
      (taken_kept (begins r) w
      (λ fate v. lasting l s (start.Packet hearer (a r) fate) (GoodCrc side p (a r) fate (t + lasts (a r)))
      (lasts (a r)) refl (lasts_positive _) v))

  message_heard_kept : k.lines → (side : Side) (p : Contents) (q : Option Contents) (w : PortStep) → k.holds w (message_heard side p t q)
  message_heard_kept l side p None w = k.line l _ w (is_later t time_out _ (omega arith))
  message_heard_kept l side p (Some q) w = k.line l _ w (is_later t pause _ (omega arith))

  pub message_ends_kept : k.lines → (side : Side) (p : Contents) (fate : Fate) (w : PortStep) → k.holds w (message_ends side p fate t)
  unfolding message_ends
  message_ends_kept l side p fate w =
      let hearer = receiver side p.channel in
      k.reads Bool (hears hearer) (λ b. message_heard side p t (if b then heard p fate else None)) w (hears_blind hearer w)
      (message_heard_kept l side p (if hears hearer w then heard p fate else None) w)

  told_sent_kept : (side : Side) → OfSource k.steps side → (p : Contents) (a : LayerAct) (w : PortStep) → k.holds w (told_sent side p t a)
  told_sent_kept side s p answer.Sent w = tells_sent_kept side s (sent_as (kind_of_header p.header)) w
  told_sent_kept side s p a w = k.nothing w

  pub acknowledged_kept : k.lines → (side : Side) → OfSource k.touches side → OfSource k.steps side →
      (p : Contents) (a : Option Contents) (w : PortStep) →
      k.holds w (acknowledged side p t a)
  unfolding good_crc_on
  acknowledged_kept l side m s p None w = k.line l _ w (is_later t rest_of_time_out _ some_rest)
  acknowledged_kept l side m s p (Some a) w =
      let call : LayerRecord → LayerRecord × LayerAct = λ x. layer.good_crc x (id_of a.header) in
      let r = on_layer side p.channel call w in
      called LayerAct side m p.channel call (λ act. told_sent side p t act) w (told_sent_kept side s p r.1 r.0)

  told_message_kept : (side : Side) → OfSource k.steps side → (p : Contents) (a : LayerAct) (w : PortStep) →
      k.holds w (told_message side p t a)
  told_message_kept side s p answer.Up w = tells_message_kept side s p w
  told_message_kept side s p a w = k.nothing w

  pub goes_up_kept : (side : Side) → OfSource k.touches side → OfSource k.steps side → (p : Contents) (w : PortStep) →
      k.holds w (goes_up side p t)
  unfolding goes_up received_on
  goes_up_kept side m s p w =
      let call : LayerRecord → LayerRecord × LayerAct = λ x. layer.received x p.header in
      let r = on_layer side p.channel call w in
      called LayerAct side m p.channel call (λ act. told_message side p t act) w (told_message_kept side s p r.1 r.0)

  pub good_crc_ends_kept : k.lines → k.touches → k.steps →
      (side : Side) (p a : Contents) (fate : Fate) (w : PortStep) → k.holds w (good_crc_ends side p a fate t)
  unfolding good_crc_ends
  good_crc_ends_kept l m s side p a fate w =
      let hearer = receiver side p.channel in
      k.joins (acknowledged side p t (heard a fate)) (goes_up hearer p t) w
      (acknowledged_kept l side (of_any k.touches side m) (of_any k.steps side s) p (heard a fate) w)
      (goes_up_kept hearer (of_any k.touches hearer m) (of_any k.steps hearer s) p (acknowledged side p t (heard a fate) w))

  after_time_out_kept : k.lines → k.starts → (side : Side) → OfSource k.steps side → (p : Contents) (a : LayerAct) (w : PortStep) →
      k.holds w (after_time_out side p t a)
  after_time_out_kept l s side e p (answer.Retry q) w = packet_starts_kept l s side q w
  after_time_out_kept l s side e p answer.Failed w =
      let f : Fault = NoGoodCrc side (kind_of_header p.header) in
      k.joins (noted f) (tells_failed side t) w (noted_kept f w) (tells_failed_kept side e (noted f w))
  after_time_out_kept l s side e p a w = k.nothing w

  pub times_out_kept : k.lines → k.starts → (side : Side) → OfSource k.touches side → OfSource k.steps side →
      (p : Contents) (w : PortStep) →
      k.holds w (times_out side p t)
  unfolding times_out timed_out_on
  times_out_kept l s side m e p w =
      let r = on_layer side p.channel layer.timed_out w in
      called LayerAct side m p.channel layer.timed_out (λ act. after_time_out side p t act) w (after_time_out_kept l s side e p r.1 r.0)

  pub waiting_dropped_kept : (w : PortStep) → k.holds w waiting_dropped
  unfolding waiting_dropped
  waiting_dropped_kept w =
      let a : PortStep → PortStep = wait Source waits.Nothing in
      let b : PortStep → PortStep = λ z. wait Sink waits.Nothing (a z) in
      k.joins b (wait Plug waits.Nothing) w
      (k.joins a (wait Sink waits.Nothing) w (wait_kept Source waits.Nothing w) (wait_kept Sink waits.Nothing (a w)))
      (wait_kept Plug waits.Nothing (b w))

  pub layers_reset_kept : k.touches → (w : PortStep) → k.holds w layers_reset
  unfolding layers_reset
  layers_reset_kept m w =
      let a : PortStep → PortStep = reset_on Source Sop in
      let b : PortStep → PortStep = λ z. reset_on Sink Sop (a z) in
      let c : PortStep → PortStep = λ z. reset_on Source SopPrime (b z) in
      k.joins c (reset_on Plug SopPrime) w
      (k.joins b (reset_on Source SopPrime) w
      (k.joins a (reset_on Sink Sop) w (reset_kept Source m Sop w) (reset_kept Sink tt Sop (a w)))
      (reset_kept Source m SopPrime (b w)))
      (reset_kept Plug tt SopPrime (c w))

  pub hears_reset_kept : (sender side : Side) → OfSource k.steps side → (w : PortStep) → k.holds w (hears_reset sender side t)
  unfolding hears_reset
  hears_reset_kept sender side s w =
      choice (is_side side sender) (λ z. z) (λ z. if hears side z then tells_reset side t z else z) w (k.nothing w)
      (k.reads Bool (hears side) (λ b z. if b then tells_reset side t z else z) w (hears_blind side w)
      (choice (hears side w) (tells_reset side t) (λ z. z) w (tells_reset_kept side s w) (k.nothing w)))

  pub hard_reset_ends_kept : k.touches → k.steps → (sender : Side) (w : PortStep) → k.holds w (hard_reset_ends sender t)
  unfolding hard_reset_ends all_hear_reset
  hard_reset_ends_kept m s sender w =
      let a : PortStep → PortStep = λ z. layers_reset (waiting_dropped z) in
      let b : PortStep → PortStep = λ z. tells_sent sender sent.Other t (a z) in
      let c : PortStep → PortStep = λ z. hears_reset sender Source t (b z) in
      let d : PortStep → PortStep = λ z. hears_reset sender Sink t (c z) in
      k.joins d (hears_reset sender Plug t) w
      (k.joins c (hears_reset sender Sink t) w
      (k.joins b (hears_reset sender Source t) w
      (k.joins a (tells_sent sender sent.Other t) w
      (k.joins waiting_dropped layers_reset w (waiting_dropped_kept w) (layers_reset_kept m (waiting_dropped w)))
      (tells_sent_kept sender (of_any k.steps sender s) sent.Other (a w)))
      (hears_reset_kept sender Source s (b w)))
      (hears_reset_kept sender Sink tt (c w)))
      (hears_reset_kept sender Plug tt (d w))

  pub line_ends_at_kept : k.lines → k.starts → k.touches → k.steps → (line : Line) (w : PortStep) → k.holds w (line_ends_at line t)
  line_ends_at_kept l s m e Idle w = k.nothing w
  line_ends_at_kept l s m e (Message side p fate end) w = message_ends_kept l side p fate w
  line_ends_at_kept l s m e (Pause side p end) w = good_crc_starts_kept l s side p w
  line_ends_at_kept l s m e (GoodCrc side p a fate end) w = good_crc_ends_kept l m e side p a fate w
  line_ends_at_kept l s m e (NoAnswer side p end) w = times_out_kept l s side (of_any k.touches side m) (of_any k.steps side e) p w
  line_ends_at_kept l s m e (HardReset side end) w = hard_reset_ends_kept m e side w

  submitted_kept : k.lines → k.starts → (side : Side) (r : Result Contents MessageData) (w : PortStep) →
      k.holds w (λ z. submitted side t (z, r))
  submitted_kept l s side (Ok p) w = packet_starts_kept l s side p w
  submitted_kept l s side (Err m) w = wait_kept side (waits.Message m) w

  message_starts_kept : k.lines → k.starts → (side : Side) → OfSource k.touches side →
      (m : MessageData) (w : PortStep) → k.holds w (message_starts side m t)
  unfolding message_starts submit_on
  message_starts_kept l s side e m w =
      let c = channel_for side m.kind in
      let call : ℕ → LayerRecord → LayerRecord × Result Contents MessageData = λ revision x. layer.submit x revision m in
      let v = on_layer side c (call (revision_on side c w)) w in
      k.reads ℕ (revision_on side c) (λ revision z. submitted side t (on_layer side c (call revision) z)) w (revision_blind side c w)
      (called (Result Contents MessageData) side e c (call (revision_on side c w)) (λ r z. submitted side t (z, r)) w
      (submitted_kept l s side v.1 v.0))

  hard_reset_starts_kept : k.lines → k.starts → (side : Side) (w : PortStep) → k.holds w (hard_reset_starts side t)
  unfolding hard_reset_starts
  hard_reset_starts_kept l s side w =
      lasting l s (start.HardReset side) (HardReset side (t + hard_reset_duration)) hard_reset_duration refl (lit< tt) w

  waiting_starts_kept : k.lines → k.starts → (side : Side) → OfSource k.touches side → (x : Waiting) (w : PortStep) →
      k.holds w (waiting_starts side t x)
  waiting_starts_kept l s side e waits.Nothing w = k.nothing w
  waiting_starts_kept l s side e (waits.Message m) w = message_starts_kept l s side e m w
  waiting_starts_kept l s side e waits.HardReset w = hard_reset_starts_kept l s side w

  side_starts_kept : k.lines → k.starts → (side : Side) → OfSource k.touches side → (w : PortStep) → k.holds w (side_starts side t)
  unfolding side_starts
  side_starts_kept l s side e w =
      let x = waiting_on side w in
      k.reads Waiting (waiting_on side) (λ y z. waiting_starts side t y (wait side waits.Nothing z)) w (waiting_blind side w)
      (k.joins (wait side waits.Nothing) (waiting_starts side t x) w (wait_kept side waits.Nothing w)
      (waiting_starts_kept l s side e x (wait side waits.Nothing w)))

  -- what waits on a side starts, or else something else comes
  or_else : k.lines → k.starts → k.touches → (side : Side) (g : PortStep → PortStep) (w : PortStep) → k.holds w g →
      k.holds w (λ z. if is_waiting (waiting_on side z) then side_starts side t z else g z)
  or_else l s m side g w p =
      k.reads Waiting (waiting_on side) (λ x z. if is_waiting x then side_starts side t z else g z) w (waiting_blind side w)
      (choice (is_waiting (waiting_on side w)) (side_starts side t) g w (side_starts_kept l s side (of_any k.touches side m) w) p)

  pub line_starts_kept : k.lines → k.starts → k.touches → (w : PortStep) → k.holds w (line_starts t)
  unfolding line_starts
  line_starts_kept l s m w =
      let plugs : PortStep → PortStep = λ z. if is_waiting z.port.plug_waits then side_starts Plug t z else z in
      let sinks : PortStep → PortStep = λ z. if is_waiting z.port.sink_waits then side_starts Sink t z else plugs z in
      let sources : PortStep → PortStep = λ z. if is_waiting z.port.source_waits then side_starts Source t z else sinks z in
      let p : k.holds w sources = or_else l s m Source sinks w (or_else l s m Sink plugs w (or_else l s m Plug (λ z. z) w (k.nothing w))) in
      k.reads Line (λ z. z.port.line) (λ line z. if is_idle line then sources z else z) w refl
      (choice (is_idle w.port.line) sources (λ z. z) w p (k.nothing w))
