-- What a step at t sets falls due later than t, and it leaves what the source is set to.
use Rattle.std.proofs.Common.{◌≡◌, ℕ, inl, inr, Option, None, refl, sym, ◌∙◌, ap, subst, List}
use Rattle.pd_symbols.specs.declared.channel.Channel.{Channel}
use Rattle.pd_symbols.specs.declared.channel.Channel.TheVariants.{Sop, SopPrime}
use Rattle.pd_header.specs.declared.side.Side.{Side}
use Rattle.pd_header.specs.declared.side.Side.TheVariants.{Source, Sink, Plug}
use Rattle.pd_timers.specs.declared.Timer.{Timer}
use Rattle.pd_timers.specs.Deadlines.{SetsLater, stopped}
use Rattle.pd_protocol.specs.LayerRecord.{LayerRecord}
use Rattle.pd_source.specs.Record.{SourceSettings}
use Rattle.pd_source.specs.Step as source
use Rattle.pd_source.specs.declared.kinds.Stimulus.{Stimulus as SourceStimulus}
use Rattle.pd_source.specs.declared.kinds.Stimulus.TheVariants as source_told
use Rattle.pd_source.proofs.Later.{SetsLater-stepped as source_later}
use Rattle.pd_sink.specs.Step as sink
use Rattle.pd_sink.specs.declared.kinds.Stimulus.{Stimulus as SinkStimulus}
use Rattle.pd_sink.specs.declared.kinds.Stimulus.TheVariants as sink_told
use Rattle.pd_sink.proofs.Later.{SetsLater-stepped as sink_later}
use Rattle.pd_plug.specs.Step as plug
use Rattle.pd_plug.specs.declared.kinds.Stimulus.{Stimulus as PlugStimulus}
use Rattle.pd_plug.specs.declared.kinds.Stimulus.TheVariants as plug_told
use Rattle.pd_plug.proofs.Later.{SetsLater-stepped as plug_later}
use Rattle.pd_line.specs.declared.notes.Start.{Start}
use Rattle.pd_line.specs.declared.port_parts.PortParts.{PortParts}
use Rattle.pd_line.specs.declared.port_parts.Line.{Line}
use Rattle.pd_line.specs.declared.port_parts.Line.TheVariants.{Idle}
use Rattle.pd_line.specs.declared.port_step.PortStep.{PortStep}
use Rattle.pd_line.specs.Later.{Times, line_end, KeptOrLater, Later}
use Rattle.pd_line.specs.PortStep.{with_layer, sink_acts, sink_steps, plug_acts, plug_steps, source_acts, source_after}
use Rattle.pd_line.specs.PortStep.{source_steps, tells_timer}
use Rattle.pd_line.specs.Lines.{with_line, started, line_ends}
use Rattle.pd_line.proofs.RulesKeep.{sink_acts_kept, plug_acts_kept, source_acts_kept, line_ends_at_kept}
use Rattle.pd_line.proofs.StepRelation.{StepRelation, EndsNoneOfSource, EndsNoneOfSink, EndsNoneOfPlug, Watched, watched}
use Rattle.pd_line.proofs.StepRelation.{times, sink_after, plug_after}

-- a step at t has led to this
pub record Leads (t : ℕ) (settings : SourceSettings) (old : Times) (new : PortStep) : Type 0 where
  pub settings_are : new.port.source.settings ≡ settings
  pub later : Later t old (times new.port)

-- from one point of a step to another
abbrev pub LeadsOn : ℕ → PortStep → PortStep → Type 0
LeadsOn t w v = Leads t w.port.source.settings (times w.port) v

sets_kept : (t : ℕ) (d : List (Option ℕ)) → SetsLater t d d
sets_kept t d = λ u at h. inl h

sets_join : (t : ℕ) (a b c : List (Option ℕ)) → SetsLater t a b → SetsLater t b c → SetsLater t a c
sets_join t a b c h k = λ u at e. elim (k u at e) [ inl f ↦ h u at f | inr l ↦ inr l ]

line_kept : (t : ℕ) (o : Option ℕ) → KeptOrLater t o o
line_kept t o = λ at h. inl h

line_join : (t : ℕ) (a b c : Option ℕ) → KeptOrLater t a b → KeptOrLater t b c → KeptOrLater t a c
line_join t a b c h k = λ at e. elim (k at e) [ inl f ↦ h at f | inr l ↦ inr l ]

pub later_kept : (t : ℕ) (a : Times) → Later t a a
later_kept t a =
    record { source = sets_kept t a.source; sink = sets_kept t a.sink; plug = sets_kept t a.plug; line = line_kept t a.line }

pub later_join : (t : ℕ) (a b c : Times) → Later t a b → Later t b c → Later t a c
later_join t a b c h k =
    record {
      source = sets_join t a.source b.source c.source h.source k.source;
      sink = sets_join t a.sink b.sink c.sink h.sink k.sink;
      plug = sets_join t a.plug b.plug c.plug h.plug k.plug;
      line = line_join t a.line b.line c.line h.line k.line;
    }

-- nothing was done
pub stays : (t : ℕ) (w : PortStep) → LeadsOn t w w
stays t w = record { settings_are = refl; later = later_kept t (times w.port) }

-- what was done leaves the source and the times
pub leaves : (t : ℕ) (w v : PortStep) → watched v ≡ watched w → LeadsOn t w v
leaves t w v e =
    record {
      settings_are = ap (λ (x : Watched). x.source.settings) e;
      later = subst (λ (a : Times). Later t (times w.port) a) (ap (λ (x : Watched). x.times) (sym e)) (later_kept t (times w.port));
    }

-- one after the other
pub joins : (t : ℕ) (s : SourceSettings) (a : Times) (b c : PortStep) → Leads t s a b → LeadsOn t b c → Leads t s a c
joins t s a b c h k =
    record { settings_are = k.settings_are ∙ h.settings_are; later = later_join t a (times b.port) (times c.port) h.later k.later }

-- the times before the sink's row is taken
abbrev pub sink_before : SinkStimulus → PortParts → Times
sink_before x r = record (times r) { sink = (sink.before_row x r.sink).deadlines }

sink_leads : (t : ℕ) (x : SinkStimulus) (w : PortStep) → Leads t w.port.source.settings (sink_before x w.port) (sink_after t x w)
sink_leads t x w =
    record {
      settings_are = refl;
      later = record { source = sets_kept t _; sink = sink_later t x w.port.sink; plug = sets_kept t _; line = line_kept t _ };
    }

pub sink_now : (t : ℕ) (x : SinkStimulus) (w : PortStep) → EndsNoneOfSink x w.port.sink → LeadsOn t w (sink_after t x w)
sink_now t x w e =
    subst (λ (d : List (Option ℕ)). Leads t w.port.source.settings (record (times w.port) { sink = d })
    (sink_after t x w)) e (sink_leads t x w)

-- the times before the plug's row is taken
abbrev pub plug_before : PlugStimulus → PortParts → Times
plug_before x r = record (times r) { plug = (plug.before_row x r.plug).deadlines }

plug_leads : (t : ℕ) (x : PlugStimulus) (w : PortStep) → Leads t w.port.source.settings (plug_before x w.port) (plug_after t x w)
plug_leads t x w =
    record {
      settings_are = refl;
      later = record { source = sets_kept t _; sink = sets_kept t _; plug = plug_later t x w.port.plug; line = line_kept t _ };
    }

pub plug_now : (t : ℕ) (x : PlugStimulus) (w : PortStep) → EndsNoneOfPlug x w.port.plug → LeadsOn t w (plug_after t x w)
plug_now t x w e =
    subst (λ (d : List (Option ℕ)). Leads t w.port.source.settings (record (times w.port) { plug = d })
    (plug_after t x w)) e (plug_leads t x w)

pub layer_leads : (t : ℕ) (c : Channel) (l : LayerRecord) (w : PortStep) → LeadsOn t w (with_layer Source c l w)
layer_leads t Sop l w = record { settings_are = refl; later = later_kept t (times w.port) }
layer_leads t SopPrime l w = record { settings_are = refl; later = later_kept t (times w.port) }

pub line_leads : (t : ℕ) (line : Line) (w : PortStep) → KeptOrLater t (line_end w.port.line) (line_end line) →
    LeadsOn t w (with_line line w)
unfolding with_line
line_leads t line w h =
    record { settings_are = refl; later = record { source = sets_kept t _; sink = sets_kept t _; plug = sets_kept t _; line = h } }

pub start_leads : (t : ℕ) (s : Start) (w : PortStep) → LeadsOn t w (started s w)
unfolding started
start_leads t s w = record { settings_are = refl; later = later_kept t (times w.port) }

-- what the steps of the source keep, so do all rules
abbrev leading : (t : ℕ) (steps : Type 0) → (steps → (x : SourceStimulus) (w : PortStep) →
    EndsNoneOfSource x w.port.source.record → LeadsOn t w (source_steps t x w)) → StepRelation t
leading t steps source =
    record {
      holds = λ w f. LeadsOn t w (f w);
      steps = steps;
      touches = Unit {0};
      lines = Unit {0};
      starts = Unit {0};
      nothing = λ w. stays t w;
      joins = λ f g w h k. joins t w.port.source.settings (times w.port) (f w) (g (f w)) h k;
      reads = λ A h g w b p. p;
      leaves = λ f w e b. leaves t w (f w) e;
      sink = λ x w e. sink_now t x w e;
      plug = λ x w e. plug_now t x w e;
      source = source;
      layer = λ m c l w. layer_leads t c l w;
      line = λ m line w h. line_leads t line w h;
      start = λ m s w. start_leads t s w;
    }

abbrev leading_besides : (t : ℕ) → StepRelation t
leading_besides t = leading t ⊥ (λ s. absurd s)

-- the times before the source's row is taken
abbrev pub source_before : SourceStimulus → PortParts → Times
source_before x r = record (times r) { source = (source.before_row x r.source.record).deadlines }

pub source_steps_lead : (t : ℕ) (x : SourceStimulus) (w : PortStep) →
    Leads t w.port.source.settings (source_before x w.port) (source_steps t x w)
unfolding source_steps
source_steps_lead t x w =
    let v = source_after t x w in
    let s = w.port.source in
    let h : Leads t s.settings (source_before x w.port) v =
    record {
      settings_are = refl;
      later = record {
        source = source_later s.settings t x w.answer s.record;
        sink = sets_kept t _;
        plug = sets_kept t _;
        line = line_kept t _;
      };
    } in
    let acts = source.acts_of s.settings t x w.answer s.record in
    joins t s.settings (source_before x w.port) v (source_acts t acts v) h (source_acts_kept t (leading_besides t) tt acts v)

pub source_now : (t : ℕ) (x : SourceStimulus) (w : PortStep) → EndsNoneOfSource x w.port.source.record → LeadsOn t w (source_steps t x w)
source_now t x w e =
    subst (λ (d : List (Option ℕ)). Leads t w.port.source.settings (record (times w.port) { source = d })
    (source_steps t x w)) e (source_steps_lead t x w)

-- each rule leads on
abbrev pub leads : (t : ℕ) → StepRelation t
leads t = leading t (Unit {0}) (λ s x w e. source_now t x w e)

pub sink_steps_lead : (t : ℕ) (x : SinkStimulus) (w : PortStep) → Leads t w.port.source.settings (sink_before x w.port) (sink_steps t x w)
unfolding sink_steps
sink_steps_lead t x w =
    let v = sink_after t x w in
    let acts = sink.acts_of t x w.port.sink in
    joins t _ (sink_before x w.port) v (sink_acts acts v) (sink_leads t x w) (sink_acts_kept t (leads t) acts v)

pub plug_steps_lead : (t : ℕ) (x : PlugStimulus) (w : PortStep) → Leads t w.port.source.settings (plug_before x w.port) (plug_steps t x w)
unfolding plug_steps
plug_steps_lead t x w =
    let v = plug_after t x w in
    let acts = plug.acts_of t x w.port.plug in
    joins t _ (plug_before x w.port) v (plug_acts acts v) (plug_leads t x w) (plug_acts_kept t (leads t) acts v)

-- the times without a side's timer
abbrev pub without_timer : Side → Timer → Times → Times
without_timer Source timer a = record a { source = stopped a.source timer }
without_timer Sink timer a = record a { sink = stopped a.sink timer }
without_timer Plug timer a = record a { plug = stopped a.plug timer }

pub tells_timer_leads : (side : Side) (timer : Timer) (t : ℕ) (w : PortStep) →
    Leads t w.port.source.settings (without_timer side timer (times w.port)) (tells_timer side timer t w)
unfolding tells_timer
tells_timer_leads Source timer t w = source_steps_lead t (source_told.Ended timer) w
tells_timer_leads Sink timer t w = sink_steps_lead t (sink_told.Ended timer) w
tells_timer_leads Plug timer t w = plug_steps_lead t (plug_told.Ended timer) w

pub line_ends_leads : (t : ℕ) (w : PortStep) → Leads t w.port.source.settings (record (times w.port) { line = None }) (line_ends t w)
unfolding line_ends with_line
line_ends_leads t w = line_ends_at_kept t (leads t) tt tt tt tt w.port.line (with_line Idle w)
