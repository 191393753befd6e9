-- What a step has to do with the source and with the answer that it uses: the source's engine alone reads the answer.
use Rattle.std.proofs.Common.{◌≡◌, ℕ, Option, None, refl, ◌∙◌, ap}
use Rattle.pd_symbols.specs.declared.channel.Channel.{Channel}
use Rattle.pd_symbols.specs.declared.channel.Channel.TheVariants.{Sop, SopPrime}
use Rattle.pd_header.specs.declared.side.Side.{Side}
use Rattle.pd_header.specs.declared.side.Side.TheVariants.{Source, Sink, Plug}
use Rattle.pd_packet.specs.Contents.{Contents}
use Rattle.pd_timers.specs.declared.Timer.{Timer}
use Rattle.pd_protocol.specs.LayerRecord.{LayerRecord}
use Rattle.pd_source.specs.Record.{SourceRecord, SourceData}
use Rattle.pd_source.specs.Step as source
use Rattle.pd_source.specs.declared.kinds.Stimulus.{Stimulus as SourceStimulus}
use Rattle.pd_source.proofs.Answered.{stepped-same, acts_of-same}
use Rattle.pd_sink.specs.Step as sink
use Rattle.pd_sink.specs.declared.kinds.Stimulus.{Stimulus as SinkStimulus}
use Rattle.pd_sink.specs.declared.kinds.Stimulus.TheVariants as sink_told
use Rattle.pd_plug.specs.Step as plug
use Rattle.pd_plug.specs.declared.kinds.Stimulus.{Stimulus as PlugStimulus}
use Rattle.pd_plug.specs.declared.kinds.Stimulus.TheVariants as plug_told
use Rattle.pd_line.specs.declared.notes.Start.{Start}
use Rattle.pd_line.specs.declared.port_parts.Line.{Line}
use Rattle.pd_line.specs.declared.port_step.PortStep.{PortStep}
use Rattle.pd_line.specs.PortStep.{tells_timer, with_layer, layer_on, on_layer, sink_acts, sink_steps, plug_acts, plug_steps}
use Rattle.pd_line.specs.PortStep.{source_acts, source_after, source_steps}
use Rattle.pd_line.specs.Lines.{with_line, started, acknowledged}
use Rattle.pd_line.proofs.RulesKeep.{sink_acts_kept, plug_acts_kept, source_acts_kept, acknowledged_kept}
use Rattle.pd_line.proofs.StepRelation.{StepRelation, OfSource, Watched, unanswered, sink_after, plug_after}

-- What was done to w leaves the source and the answer: it is v now. It doesn't read the answer: done to w without its
-- answer it is u, which is v without its answer.
pub record Spares (w v u : PortStep) : Type 0 where
  pub source : v.port.source ≡ w.port.source
  pub answer : v.answer ≡ w.answer
  pub blind : u ≡ unanswered v

-- the same for what also answers a value
pub record SparesWith (A : Type 0) (w : PortStep) (v u : PortStep × A) : Type 0 where
  pub source : v.0.port.source ≡ w.port.source
  pub answer : v.0.answer ≡ w.answer
  pub blind : u ≡ (unanswered v.0, v.1)

-- what is the same by computing
pub spares : (w v : PortStep) → v.port.source ≡ w.port.source → v.answer ≡ w.answer → Spares w v (unanswered v)
spares w v e f = record { source = e; answer = f; blind = refl }

-- nothing was done
pub none : (w : PortStep) → Spares w w (unanswered w)
none w = spares w w refl refl

-- one after the other
pub joins : (g : PortStep → PortStep) (w v u : PortStep) → Spares w v u → Spares v (g v) (g (unanswered v)) → Spares w (g v) (g u)
joins g w v u h k = record { source = k.source ∙ h.source; answer = k.answer ∙ h.answer; blind = ap g h.blind ∙ k.blind }

pub on_layer_spares : (A : Type 0) (side : Side) (channel : Channel) (call : LayerRecord → LayerRecord × A) (w : PortStep) →
    SparesWith A w (on_layer side channel call w) (on_layer side channel call (unanswered w))
on_layer_spares A Source Sop call w = record { source = refl; answer = refl; blind = refl }
on_layer_spares A Source SopPrime call w = record { source = refl; answer = refl; blind = refl }
on_layer_spares A Sink channel call w = record { source = refl; answer = refl; blind = refl }
on_layer_spares A Plug channel call w = record { source = refl; answer = refl; blind = refl }

pub layer_spares : (c : Channel) (l : LayerRecord) (w : PortStep) →
    Spares w (with_layer Source c l w) (with_layer Source c l (unanswered w))
layer_spares Sop l w = spares w _ refl refl
layer_spares SopPrime l w = spares w _ refl refl

pub line_spares : (line : Line) (w : PortStep) → Spares w (with_line line w) (with_line line (unanswered w))
unfolding with_line
line_spares line w = spares w _ refl refl

pub start_spares : (s : Start) (w : PortStep) → Spares w (started s w) (started s (unanswered w))
unfolding started
start_spares s w = spares w _ refl refl

-- each rule that doesn't step the source spares it
abbrev pub sparing : (t : ℕ) → StepRelation t
sparing t =
    record {
      holds = λ w f. Spares w (f w) (f (unanswered w));
      steps = ⊥;
      touches = Unit {0};
      lines = Unit {0};
      starts = Unit {0};
      nothing = λ w. none w;
      joins = λ f g w h k. joins g w (f w) (f (unanswered w)) h k;
      reads = λ A h g w b p. record { source = p.source; answer = p.answer; blind = ap (λ (a : A). g a (unanswered w)) b ∙ p.blind };
      leaves = λ f w e b. record { source = ap (λ (x : Watched). x.source) e; answer = ap (λ (x : Watched). x.answer) e; blind = b };
      sink = λ x w e. spares w _ refl refl;
      plug = λ x w e. spares w _ refl refl;
      source = λ s. absurd s;
      layer = λ m c l w. layer_spares c l w;
      line = λ m line w h. line_spares line w;
      start = λ m s w. start_spares s w;
    }

-- also where a timer ends
pub tells_timer_spares : (side : Side) → OfSource ⊥ side → (timer : Timer) (t : ℕ) (w : PortStep) →
    Spares w (tells_timer side timer t w) (tells_timer side timer t (unanswered w))
unfolding tells_timer sink_steps plug_steps
tells_timer_spares Source o timer t w = absurd o
tells_timer_spares Sink o timer t w =
    let x : SinkStimulus = sink_told.Ended timer in
    let acts = sink.acts_of t x w.port.sink in
    let v = sink_after t x w in
    joins (sink_acts acts) w v _ (spares w v refl refl) (sink_acts_kept t (sparing t) acts v)
tells_timer_spares Plug o timer t w =
    let x : PlugStimulus = plug_told.Ended timer in
    let acts = plug.acts_of t x w.port.plug in
    let v = plug_after t x w in
    joins (plug_acts acts) w v _ (spares w v refl refl) (plug_acts_kept t (sparing t) acts v)

-- The source's engine is stepped with x and the answer. Where it asks nothing, the answer doesn't matter.
pub record Steps (t : ℕ) (x : SourceStimulus) (w v u : PortStep) : Type 0 where
  pub stepped : v.port.source.record ≡ source.stepped w.port.source.settings t x w.answer w.port.source.record
  pub blind : source.query_of w.port.source.settings x w.port.source.record ≡ None → u ≡ unanswered v

-- the step where the source is this, and the answer is used up
abbrev source_is : PortStep → SourceRecord → PortStep
source_is w r = record w { port = record w.port { source = record w.port.source { «record» = r } }; answer = None }

pub source_steps_step : (t : ℕ) (x : SourceStimulus) (w : PortStep) → Steps t x w (source_steps t x w) (source_steps t x (unanswered w))
unfolding source_steps
source_steps_step t x w =
    let s = w.port.source in
    let v = source_after t x w in
    let acts = source.acts_of s.settings t x w.answer s.record in
    let k = source_acts_kept t (sparing t) tt acts v in
    record {
      stepped = ap (λ (z : SourceData). z.record) k.source;
      blind = λ q.
          let e : source_after t x (unanswered w) ≡ v = ap (source_is w) (stepped-same s.settings t x None w.answer s.record q) in
          let f = acts_of-same s.settings t x None w.answer s.record q in
          ap (λ a. source_acts t a (source_after t x (unanswered w))) f ∙ ap (source_acts t acts) e ∙ k.blind;
    }

-- the layers of the source are as before
abbrev LeavesLayers : PortStep → PortStep → Type 0
LeavesLayers w v = (v.port.source_sop ≡ w.port.source_sop) × (v.port.source_sop_prime ≡ w.port.source_sop_prime)

line_layers : (line : Line) (w : PortStep) → LeavesLayers w (with_line line w)
unfolding with_line
line_layers line w = (refl, refl)

start_layers : (s : Start) (w : PortStep) → LeavesLayers w (started s w)
unfolding started
start_layers s w = (refl, refl)

-- each rule that doesn't step the source, nor touch its layers, leaves them
abbrev leaves_layers : (t : ℕ) → StepRelation t
leaves_layers t =
    record {
      holds = λ w f. LeavesLayers w (f w);
      steps = ⊥;
      touches = ⊥;
      lines = Unit {0};
      starts = Unit {0};
      nothing = λ w. (refl, refl);
      joins = λ f g w h k. (k.0 ∙ h.0, k.1 ∙ h.1);
      reads = λ A h g w b p. p;
      leaves = λ f w e b. (ap (λ (x : Watched). x.source_sop) e, ap (λ (x : Watched). x.source_sop_prime) e);
      sink = λ x w e. (refl, refl);
      plug = λ x w e. (refl, refl);
      source = λ s. absurd s;
      layer = λ m. absurd m;
      line = λ m line w h. line_layers line w;
      start = λ m s w. start_layers s w;
    }

on_channel : (c : Channel) (w v : PortStep) → LeavesLayers w v → layer_on Source c v ≡ layer_on Source c w
on_channel Sop w v h = h.0
on_channel SopPrime w v h = h.1

pub line_layer : (line : Line) (c : Channel) (w : PortStep) → layer_on Source c (with_line line w) ≡ layer_on Source c w
line_layer line c w = on_channel c w (with_line line w) (line_layers line w)

pub acknowledged_layer : (side : Side) → OfSource ⊥ side → (p : Contents) (t : ℕ) (a : Option Contents) (c : Channel) (w : PortStep) →
    layer_on Source c (acknowledged side p t a w) ≡ layer_on Source c w
acknowledged_layer side o p t a c w = on_channel c w (acknowledged side p t a w) (acknowledged_kept t (leaves_layers t) tt side o o p a w)
