-- A relation between a step under way before a part of it and after: what it has to be for all parts to keep it.
use Rattle.std.proofs.Common.{◌≡◌, ℕ, ◌+◌, ◌<◌, ◌==◌, Bool, true, false, if◌then◌else◌, inr, Option, Some, None, refl, List, []}
use Rattle.std.proofs.Common.{◌∷◌, arith, lit<}
use Rattle.pd_symbols.specs.declared.channel.Channel.{Channel}
use Rattle.pd_symbols.specs.declared.channel.Channel.TheVariants.{Sop, SopPrime}
use Rattle.pd_header.specs.declared.side.Side.{Side}
use Rattle.pd_header.specs.declared.side.Side.TheVariants.{Source, Sink, Plug}
use Rattle.pd_header.specs.declared.kind.Kind.{Kind}
use Rattle.pd_header.specs.declared.kind.Kind.TheVariants as kind
use Rattle.pd_identity.specs.Identity.{header_of, req}
use Rattle.pd_objects.specs.declared.query.Answer.{Answer}
use Rattle.pd_packet.specs.Timing.{duration_of}
use Rattle.pd_protocol.specs.LayerRecord.{LayerRecord}
use Rattle.pd_source.specs.Record.{SourceRecord, SourceData}
use Rattle.pd_source.specs.Step as source
use Rattle.pd_source.specs.declared.kinds.Stimulus.{Stimulus as SourceStimulus}
use Rattle.pd_sink.specs.Record.{SinkRecord}
use Rattle.pd_sink.specs.Step as sink
use Rattle.pd_sink.specs.declared.kinds.Stimulus.{Stimulus as SinkStimulus}
use Rattle.pd_plug.specs.Record.{PlugRecord}
use Rattle.pd_plug.specs.Step as plug
use Rattle.pd_plug.specs.declared.kinds.Stimulus.{Stimulus as PlugStimulus}
use Rattle.pd_plug.specs.declared.kinds.Stimulus.TheVariants as plug_told
use Rattle.pd_line.specs.declared.notes.Start.{Start}
use Rattle.pd_line.specs.declared.port_parts.PortParts.{PortParts}
use Rattle.pd_line.specs.declared.port_parts.Line.{Line}
use Rattle.pd_line.specs.declared.port_step.PortStep.{PortStep}
use Rattle.pd_line.specs.Record.{without_settings}
use Rattle.pd_line.specs.Told.{source_hears_as, sink_hears_as, plug_hears_as}
use Rattle.pd_line.specs.Later.{Times, times_of, line_end, KeptOrLater}
use Rattle.pd_line.specs.PortStep.{with_port, layer_on, with_layer, source_steps}
use Rattle.pd_line.specs.Lines.{rest_of_time_out, with_line, started, hears, revision_on, waiting_on}

-- the times of a port's record
abbrev pub times : PortParts → Times
times r = times_of (without_settings r)

-- the step without its answer
abbrev pub unanswered : PortStep → PortStep
unanswered w = record w { answer = None }

-- what is told apart of a step under way; its faults and what waits are not
pub record Watched : Type 0 where
  pub source : SourceData
  pub answer : Option Answer
  pub times : Times
  pub line : Line
  pub start : Option Start
  pub source_sop : LayerRecord
  pub source_sop_prime : LayerRecord

abbrev pub watched : PortStep → Watched
watched w =
    record {
      source = w.port.source;
      answer = w.answer;
      times = times w.port;
      line = w.port.line;
      start = w.start;
      source_sop = w.port.source_sop;
      source_sop_prime = w.port.source_sop_prime;
    }

-- the sink after it was stepped, its acts apart
abbrev pub sink_after : ℕ → SinkStimulus → PortStep → PortStep
sink_after t x w = with_port (record w.port { sink = sink.stepped t x w.port.sink }) w

-- the plug after it was stepped
abbrev pub plug_after : ℕ → PlugStimulus → PortStep → PortStep
plug_after t x w = with_port (record w.port { plug = plug.stepped t x w.port.plug }) w

-- no timer ends by what an engine is told
abbrev pub EndsNoneOfSource : SourceStimulus → SourceRecord → Type 0
EndsNoneOfSource x r = (source.before_row x r).deadlines ≡ r.deadlines

abbrev pub EndsNoneOfSink : SinkStimulus → SinkRecord → Type 0
EndsNoneOfSink x r = (sink.before_row x r).deadlines ≡ r.deadlines

abbrev pub EndsNoneOfPlug : PlugStimulus → PlugRecord → Type 0
EndsNoneOfPlug x r = (plug.before_row x r).deadlines ≡ r.deadlines

-- What holds of parts of a step at t, as functions of the step under way. It holds of those that leave what is watched, of one
-- after the other, and of those that read something besides the answer and go by it; and of the engines' steps. Of steps
-- of the source, of what touches its layers, changes the line or starts something it holds where it is said to.
pub record StepRelation (t : ℕ) : Type 1 where
  pub holds : PortStep → (PortStep → PortStep) → Type 0
  pub steps : Type 0
  pub touches : Type 0
  pub lines : Type 0
  pub starts : Type 0
  pub nothing : (w : PortStep) → holds w (λ z. z)
  pub joins : (f g : PortStep → PortStep) (w : PortStep) → holds w f → holds (f w) g → holds w (λ z. g (f z))
  pub reads : (A : Type 0) (h : PortStep → A) (g : A → PortStep → PortStep) (w : PortStep) → h (unanswered w) ≡ h w → holds w (g (h w)) →
      holds w (λ z. g (h z) z)
  pub leaves : (f : PortStep → PortStep) (w : PortStep) → watched (f w) ≡ watched w → f (unanswered w) ≡ unanswered (f w) → holds w f
  pub sink : (x : SinkStimulus) (w : PortStep) → EndsNoneOfSink x w.port.sink → holds w (sink_after t x)
  pub plug : (x : PlugStimulus) (w : PortStep) → EndsNoneOfPlug x w.port.plug → holds w (plug_after t x)
  pub source : steps → (x : SourceStimulus) (w : PortStep) → EndsNoneOfSource x w.port.source.record → holds w (source_steps t x)
  pub layer : touches → (c : Channel) (l : LayerRecord) (w : PortStep) → holds w (with_layer Source c l)
  pub line : lines → (line : Line) (w : PortStep) → KeptOrLater t (line_end w.port.line) (line_end line) → holds w (with_line line)
  pub start : starts → (s : Start) (w : PortStep) → holds w (started s)

-- what is asked of the source alone
abbrev pub OfSource : Type 0 → Side → Type 0
OfSource a Source = a
OfSource a Sink = Unit {0}
OfSource a Plug = Unit {0}

pub of_any : (a : Type 0) (side : Side) → a → OfSource a side
of_any a Source x = x
of_any a Sink x = tt
of_any a Plug x = tt

-- what is read of a step under way besides its answer
pub layer_blind : (side : Side) (c : Channel) (w : PortStep) → layer_on side c (unanswered w) ≡ layer_on side c w
layer_blind Source Sop w = refl
layer_blind Source SopPrime w = refl
layer_blind Sink c w = refl
layer_blind Plug c w = refl

pub hears_blind : (side : Side) (w : PortStep) → hears side (unanswered w) ≡ hears side w
unfolding hears
hears_blind Source w = refl
hears_blind Sink w = refl
hears_blind Plug w = refl

pub revision_blind : (side : Side) (c : Channel) (w : PortStep) → revision_on side c (unanswered w) ≡ revision_on side c w
revision_blind Source Sop w = refl
revision_blind Source SopPrime w = refl
revision_blind Sink c w = refl
revision_blind Plug c w = refl

pub waiting_blind : (side : Side) (w : PortStep) → waiting_on side (unanswered w) ≡ waiting_on side w
waiting_blind Source w = refl
waiting_blind Sink w = refl
waiting_blind Plug w = refl

-- messages end no timer
pub source_hears_now : (k : Kind) (header : ℕ) (objects : List ℕ) (r : SourceRecord) → EndsNoneOfSource (source_hears_as k header objects) r
source_hears_now kind.Request header [] r = refl
source_hears_now kind.Request header (o ∷ objects) r = refl
source_hears_now kind.GetSourceCap header objects r = refl
source_hears_now kind.SinkCapabilities header objects r = refl
source_hears_now kind.Accept header objects r = refl
source_hears_now kind.SoftReset header objects r = refl
source_hears_now kind.VendorDefined header objects r = refl
source_hears_now k header objects r = refl

pub sink_hears_now : (k : Kind) (objects : List ℕ) (r : SinkRecord) → EndsNoneOfSink (sink_hears_as k objects) r
sink_hears_now kind.SourceCapabilities objects r = refl
sink_hears_now kind.Accept objects r = refl
sink_hears_now kind.Reject objects r = refl
sink_hears_now kind.Wait objects r = refl
sink_hears_now kind.PsRdy objects r = refl
sink_hears_now kind.GetSinkCap objects r = refl
sink_hears_now kind.SoftReset objects r = refl
sink_hears_now k objects r = refl

either_now : (b : Bool) (r : PlugRecord) → EndsNoneOfPlug (if b then plug_told.DiscoverIdentity else plug_told.Other) r
either_now true r = refl
either_now false r = refl

pub plug_hears_now : (k : Kind) (objects : List ℕ) (r : PlugRecord) → EndsNoneOfPlug (plug_hears_as k objects) r
plug_hears_now kind.VendorDefined [] r = refl
plug_hears_now kind.VendorDefined (o ∷ objects) r = either_now (o == header_of req) r
plug_hears_now k objects r = refl

-- an end that is later
pub is_later : (t n : ℕ) (old : Option ℕ) → 0 < n → KeptOrLater t old (Some (t + n))
is_later t n old h = λ at e. inr (let f : t + n ≡ at = cc in omega arith)

-- each packet lasts for some time
pub lasts_positive : (n : ℕ) → 0 < duration_of n
unfolding duration_of
lasts_positive n = omega arith

-- a GoodCRC ends before the time-out
pub some_rest : 0 < rest_of_time_out
unfolding duration_of
some_rest = lit< tt
