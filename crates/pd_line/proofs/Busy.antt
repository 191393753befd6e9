-- The line starts nothing while it is busy, and the engines leave it.
use Rattle.std.proofs.Common.{◌≡◌, ◌⊎◌, inl, inr, ℕ, Bool, true, false, if◌then◌else◌, Result, Ok, Err, refl, ◌∙◌, ap}
use Rattle.pd_symbols.specs.declared.channel.Channel.{Channel}
use Rattle.pd_symbols.specs.declared.channel.Channel.TheVariants.{Sop, SopPrime}
use Rattle.pd_header.specs.declared.side.Side.{Side}
use Rattle.pd_header.specs.declared.side.Side.TheVariants.{Source, Sink, Plug}
use Rattle.pd_header.specs.Kinds.{kind_of_header}
use Rattle.pd_packet.specs.Contents.{Contents}
use Rattle.pd_protocol.specs.Layer as layer
use Rattle.pd_protocol.specs.Messages.{MessageData}
use Rattle.pd_protocol.specs.LayerRecord.{LayerRecord}
use Rattle.pd_protocol.specs.declared.layer.LayerAct.{LayerAct}
use Rattle.pd_protocol.specs.declared.layer.LayerAct.TheVariants as answer
use Rattle.pd_timers.specs.declared.Timer.{Timer}
use Rattle.pd_source.specs.Step as source
use Rattle.pd_source.specs.declared.kinds.Stimulus.{Stimulus as SourceStimulus}
use Rattle.pd_source.specs.declared.kinds.Stimulus.TheVariants as source_told
use Rattle.pd_sink.specs.Step as sink
use Rattle.pd_sink.specs.declared.kinds.Stimulus.{Stimulus as SinkStimulus}
use Rattle.pd_sink.specs.declared.kinds.Stimulus.TheVariants as sink_told
use Rattle.pd_plug.specs.Step as plug
use Rattle.pd_plug.specs.declared.kinds.Stimulus.{Stimulus as PlugStimulus}
use Rattle.pd_plug.specs.declared.kinds.Stimulus.TheVariants as plug_told
use Rattle.pd_line.specs.declared.notes.Fault.{Fault}
use Rattle.pd_line.specs.declared.notes.Fault.TheVariants.{NoGoodCrc}
use Rattle.pd_line.specs.declared.port_parts.Line.{Line}
use Rattle.pd_line.specs.declared.port_parts.Line.TheVariants.{Idle, Message, Pause, GoodCrc, NoAnswer, HardReset}
use Rattle.pd_line.specs.declared.port_parts.Waiting.{Waiting}
use Rattle.pd_line.specs.declared.port_parts.Waiting.TheVariants as waits
use Rattle.pd_line.specs.declared.port_step.PortStep.{PortStep}
use Rattle.pd_line.specs.PortStep.{with_layer, on_layer, timed_out_on, noted, sink_steps, plug_steps, source_after, source_steps}
use Rattle.pd_line.specs.PortStep.{tells_timer, wait, submit_on}
use Rattle.pd_line.specs.Lines.{with_line, started, packet_starts, good_crc_starts, after_time_out, times_out, line_ends_at}
use Rattle.pd_line.specs.Lines.{line_ends, is_idle, is_waiting, line_starts, start_on, channel_for, revision_on, waiting_on}
use Rattle.pd_line.specs.Lines.{submitted, message_starts, hard_reset_starts, waiting_starts, side_starts}
use Rattle.pd_line.proofs.RulesKeep.{sink_acts_kept, plug_acts_kept, source_acts_kept, noted_kept, tells_failed_kept}
use Rattle.pd_line.proofs.RulesKeep.{wait_kept, message_ends_kept, good_crc_ends_kept, hard_reset_ends_kept}
use Rattle.pd_line.proofs.StepRelation.{StepRelation, of_any, Watched, sink_after, plug_after}

-- while the line is busy, nothing starts
pub line_starts-busy : (t : ℕ) (w : PortStep) → is_idle w.port.line ≡ false → line_starts t w ≡ w
unfolding line_starts
line_starts-busy t w h = rw h refl

-- what was done leaves the line, and starts nothing
pub record LeavesLine (w v : PortStep) : Type 0 where
  pub line : v.port.line ≡ w.port.line
  pub start : v.start ≡ w.start

pub layer_line : (c : Channel) (l : LayerRecord) (w : PortStep) → LeavesLine w (with_layer Source c l w)
layer_line Sop l w = record { line = refl; start = refl }
layer_line SopPrime l w = record { line = refl; start = refl }

-- what leaves the line, where the steps of the source do
abbrev leaving : (t : ℕ) (steps : Type 0) → (steps → (x : SourceStimulus) (w : PortStep) → LeavesLine w (source_steps t x w)) →
    StepRelation t
leaving t steps source =
    record {
      holds = λ w f. LeavesLine w (f w);
      steps = steps;
      touches = Unit {0};
      lines = ⊥;
      starts = ⊥;
      nothing = λ w. record { line = refl; start = refl };
      joins = λ f g w h k. record { line = k.line ∙ h.line; start = k.start ∙ h.start };
      reads = λ A h g w b p. p;
      leaves = λ f w e b. record { line = ap (λ (x : Watched). x.line) e; start = ap (λ (x : Watched). x.start) e };
      sink = λ x w e. record { line = refl; start = refl };
      plug = λ x w e. record { line = refl; start = refl };
      source = λ s x w e. source s x w;
      layer = λ m c l w. layer_line c l w;
      line = λ l. absurd l;
      start = λ s. absurd s;
    }

abbrev leaving_besides : (t : ℕ) → StepRelation t
leaving_besides t = leaving t ⊥ (λ s. absurd s)

pub source_steps_line : (t : ℕ) (x : SourceStimulus) (w : PortStep) → LeavesLine w (source_steps t x w)
unfolding source_steps
source_steps_line t x w =
    let v = source_after t x w in
    let h = source_acts_kept t (leaving_besides t) tt (source.acts_of w.port.source.settings t x w.answer w.port.source.record) v in
    record { line = h.line; start = h.start }

-- each rule that starts nothing leaves the line
abbrev pub leaves_line : (t : ℕ) → StepRelation t
leaves_line t = leaving t (Unit {0}) (λ s x w. source_steps_line t x w)

pub sink_steps_line : (t : ℕ) (x : SinkStimulus) (w : PortStep) → LeavesLine w (sink_steps t x w)
unfolding sink_steps
sink_steps_line t x w =
    let h = sink_acts_kept t (leaves_line t) (sink.acts_of t x w.port.sink) (sink_after t x w) in record { line = h.line; start = h.start }

plug_steps_line : (t : ℕ) (x : PlugStimulus) (w : PortStep) → LeavesLine w (plug_steps t x w)
unfolding plug_steps
plug_steps_line t x w =
    let h = plug_acts_kept t (leaves_line t) (plug.acts_of t x w.port.plug) (plug_after t x w) in record { line = h.line; start = h.start }

pub tells_timer_line : (side : Side) (timer : Timer) (t : ℕ) (w : PortStep) → LeavesLine w (tells_timer side timer t w)
unfolding tells_timer
tells_timer_line Source timer t w = source_steps_line t (source_told.Ended timer) w
tells_timer_line Sink timer t w = sink_steps_line t (sink_told.Ended timer) w
tells_timer_line Plug timer t w = plug_steps_line t (plug_told.Ended timer) w

layer_start : (c : Channel) (l : LayerRecord) (w : PortStep) → (with_layer Source c l w).start ≡ w.start
layer_start Sop l w = refl
layer_start SopPrime l w = refl

line_start : (line : Line) (w : PortStep) → (with_line line w).start ≡ w.start
unfolding with_line
line_start line w = refl

-- what starts nothing, though it may change the line
abbrev starts_none : (t : ℕ) → StepRelation t
starts_none t =
    record {
      holds = λ w f. (f w).start ≡ w.start;
      steps = Unit {0};
      touches = Unit {0};
      lines = Unit {0};
      starts = ⊥;
      nothing = λ w. refl;
      joins = λ f g w h k. k ∙ h;
      reads = λ A h g w b p. p;
      leaves = λ f w e b. ap (λ (x : Watched). x.start) e;
      sink = λ x w e. refl;
      plug = λ x w e. refl;
      source = λ s x w e. (source_steps_line t x w).start;
      layer = λ m c l w. layer_start c l w;
      line = λ l line w h. line_start line w;
      start = λ s. absurd s;
    }

-- the line is busy with what has started
pub record IsOnLine (v : PortStep) : Type 0 where
  pub busy : is_idle v.port.line ≡ false
  pub same : v.start ≡ start_on v.port.line

-- what a step starts: nothing, or else the line is busy with it
abbrev pub StartsOne : PortStep → PortStep → Type 0
StartsOne w v = (v.start ≡ w.start) ⊎ IsOnLine v

-- after something that starts nothing
then_one : (w v u : PortStep) → v.start ≡ w.start → StartsOne v u → StartsOne w u
then_one w v u e (inl h) = inl (h ∙ e)
then_one w v u e (inr h) = inr h

packet_starts_one : (side : Side) (p : Contents) (t : ℕ) (w : PortStep) → StartsOne w (packet_starts side p t w)
unfolding packet_starts started with_line
packet_starts_one side p t w = inr (record { busy = refl; same = refl })

good_crc_starts_one : (side : Side) (p : Contents) (t : ℕ) (w : PortStep) → StartsOne w (good_crc_starts side p t w)
unfolding good_crc_starts started with_line
good_crc_starts_one side p t w = inr (record { busy = refl; same = refl })

on_layer_start : (A : Type 0) (side : Side) (channel : Channel) (call : LayerRecord → LayerRecord × A)
    (w : PortStep) → (on_layer side channel call w).0.start ≡ w.start
on_layer_start A Source Sop call w = refl
on_layer_start A Source SopPrime call w = refl
on_layer_start A Sink channel call w = refl
on_layer_start A Plug channel call w = refl

after_time_out_one : (side : Side) (p : Contents) (t : ℕ) (act : LayerAct) (w : PortStep) → StartsOne w (after_time_out side p t act w)
after_time_out_one side p t (answer.Retry q) w = packet_starts_one side q t w
after_time_out_one side p t answer.Failed w =
    let f : Fault = NoGoodCrc side (kind_of_header p.header) in
    inl (tells_failed_kept t (starts_none t) side (of_any (Unit {0}) side tt) (noted f w) ∙ noted_kept t (starts_none t) f w)
after_time_out_one side p t act w = inl refl

times_out_one : (side : Side) (p : Contents) (t : ℕ) (w : PortStep) → StartsOne w (times_out side p t w)
unfolding times_out timed_out_on
times_out_one side p t w =
    let r = timed_out_on side p.channel w in
    then_one w r.0 (after_time_out side p t r.1 r.0) (on_layer_start _ side p.channel layer.timed_out w)
    (after_time_out_one side p t r.1 r.0)

line_ends_at_one : (line : Line) (t : ℕ) (w : PortStep) → StartsOne w (line_ends_at line t w)
line_ends_at_one Idle t w = inl refl
line_ends_at_one (Message side p fate end) t w = inl (message_ends_kept t (starts_none t) tt side p fate w)
line_ends_at_one (Pause side p end) t w = good_crc_starts_one side p t w
line_ends_at_one (GoodCrc side p a fate end) t w = inl (good_crc_ends_kept t (starts_none t) tt tt tt side p a fate w)
line_ends_at_one (NoAnswer side p end) t w = times_out_one side p t w
line_ends_at_one (HardReset side end) t w = inl (hard_reset_ends_kept t (starts_none t) tt tt side w)

pub line_ends_one : (t : ℕ) (w : PortStep) → StartsOne w (line_ends t w)
unfolding line_ends
line_ends_one t w =
    let v = with_line Idle w in
    then_one w v (line_ends_at w.port.line t v) (line_start Idle w) (line_ends_at_one w.port.line t v)

submitted_one : (side : Side) (t : ℕ) (w : PortStep) (r : Result Contents MessageData) → StartsOne w (submitted side t (w, r))
submitted_one side t w (Ok p) = packet_starts_one side p t w
submitted_one side t w (Err m) = inl (wait_kept t (starts_none t) side (waits.Message m) w)

message_starts_one : (side : Side) (m : MessageData) (t : ℕ) (w : PortStep) → StartsOne w (message_starts side m t w)
unfolding message_starts submit_on
message_starts_one side m t w =
    let channel = channel_for side m.kind in
    let call : LayerRecord → LayerRecord × Result Contents MessageData = λ l. layer.submit l (revision_on side channel w) m in
    let r = on_layer side channel call w in
    then_one w r.0 (submitted side t (r.0, r.1)) (on_layer_start (Result Contents MessageData) side channel call w)
    (submitted_one side t r.0 r.1)

hard_reset_starts_one : (side : Side) (t : ℕ) (w : PortStep) → StartsOne w (hard_reset_starts side t w)
unfolding hard_reset_starts started with_line
hard_reset_starts_one side t w = inr (record { busy = refl; same = refl })

waiting_starts_one : (side : Side) (t : ℕ) (x : Waiting) (w : PortStep) → StartsOne w (waiting_starts side t x w)
waiting_starts_one side t waits.Nothing w = inl refl
waiting_starts_one side t (waits.Message m) w = message_starts_one side m t w
waiting_starts_one side t waits.HardReset w = hard_reset_starts_one side t w

side_starts_one : (side : Side) (t : ℕ) (w : PortStep) → StartsOne w (side_starts side t w)
unfolding side_starts
side_starts_one side t w =
    let v = wait side waits.Nothing w in
    then_one w v (waiting_starts side t (waiting_on side w) v) (wait_kept t (starts_none t) side waits.Nothing w)
    (waiting_starts_one side t (waiting_on side w) v)

either_one : (b : Bool) (w v u : PortStep) → StartsOne w v → StartsOne w u → StartsOne w (if b then v else u)
either_one true w v u h k = h
either_one false w v u h k = k

pub line_starts_one : (t : ℕ) (w : PortStep) → StartsOne w (line_starts t w)
unfolding line_starts
line_starts_one t w =
    let plug = either_one (is_waiting w.port.plug_waits) w _ w (side_starts_one Plug t w) (inl refl) in
    let sink = either_one (is_waiting w.port.sink_waits) w _ _ (side_starts_one Sink t w) plug in
    let all = either_one (is_waiting w.port.source_waits) w _ _ (side_starts_one Source t w) sink in
    either_one (is_idle w.port.line) w _ w all (inl refl)
