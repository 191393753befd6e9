-- What each rule of the line does to the Request and the Source_Capabilities that wait: a Request stays or is dropped, but where a timer of
-- the sink ends, and Source_Capabilities are of the offer that is being made.
use Rattle.std.proofs.Common.{◌≡◌, ℕ, Bool, true, false, not, ◌&&◌, if◌then◌else◌, List, [], ◌∷◌, refl, sym, ap}
use Rattle.std.proofs.Common.{◌∙◌, subst}
use Rattle.pd_symbols.specs.declared.channel.Channel.{Channel}
use Rattle.pd_symbols.specs.declared.channel.Channel.TheVariants.{Sop, SopPrime}
use Rattle.pd_header.specs.declared.side.Side.{Side}
use Rattle.pd_header.specs.declared.side.Side.TheVariants.{Source, Sink, Plug}
use Rattle.pd_protocol.specs.LayerRecord.{LayerRecord}
use Rattle.pd_source.specs.Record.{SourceData}
use Rattle.pd_source.specs.Step as source
use Rattle.pd_source.specs.declared.kinds.Act.{Act as SourceAct}
use Rattle.pd_source.specs.declared.kinds.Act.TheVariants as source_act_is
use Rattle.pd_source.specs.declared.kinds.Stimulus.{Stimulus as SourceStimulus}
use Rattle.pd_sink.specs.Record.{SinkRecord}
use Rattle.pd_sink.specs.Step as sink
use Rattle.pd_sink.specs.declared.kinds.State.{State as SinkState}
use Rattle.pd_sink.specs.declared.kinds.Act.{Act as SinkAct}
use Rattle.pd_sink.specs.declared.kinds.Act.TheVariants as sink_act_is
use Rattle.pd_sink.specs.declared.kinds.Stimulus.{Stimulus as SinkStimulus}
use Rattle.pd_sink.specs.declared.kinds.Stimulus.TheVariants as sink_told
use Rattle.pd_plug.specs.Step as plug
use Rattle.pd_plug.specs.declared.kinds.Act.{Act as PlugAct}
use Rattle.pd_plug.specs.declared.kinds.Act.TheVariants as plug_act_is
use Rattle.pd_plug.specs.declared.kinds.Stimulus.{Stimulus as PlugStimulus}
use Rattle.pd_line.specs.declared.notes.Fault.{Fault}
use Rattle.pd_line.specs.declared.port_parts.Line.{Line}
use Rattle.pd_line.specs.declared.port_parts.Waiting.{Waiting}
use Rattle.pd_line.specs.declared.port_step.PortStep.{PortStep}
use Rattle.pd_line.specs.PortStep.{with_port, noted, wait, with_layer}
use Rattle.pd_line.specs.PortStep.{reset_on, sink_act, sink_acts, sink_steps, plug_act, plug_acts, plug_steps}
use Rattle.pd_line.specs.PortStep.{source_act, source_acts, source_after, source_steps}
use Rattle.pd_line.specs.Lines.{with_line}
use Rattle.pd_why.specs.Wishes.{asks_in, is_select, wish_of, request_by}
use Rattle.pd_sink.proofs.Requests.{is_ended}
use Rattle.pd_why.proofs.SinkSteps.{IsAsked, sink_left, asked_next, sink_asks}
use Rattle.pd_why.proofs.SourceSteps.{IsOffered, source_left, source_offers}

-- what is watched of a step under way
pub record View : Type 0 where
  pub source : SourceData
  pub source_waits : Waiting
  pub sink : SinkRecord
  pub sink_waits : Waiting

abbrev pub view : PortStep → View
view w = record {
  source = w.port.source;
  source_waits = w.port.source_waits;
  sink = w.port.sink;
  sink_waits = w.port.sink_waits;
}

-- what waits on the source is of the offer that is being made
abbrev pub Offers : View → Type 0
Offers v = IsOffered v.source.settings v.source.record v.source_waits

-- from one to the other no Request is sent, and what waits stays as it should
pub record Goes (q : List ℕ) (v v' : View) : Type 0 where
  pub request : IsAsked q v.sink_waits → IsAsked q v'.sink_waits
  pub calm : asks_in v.sink.state v'.sink.state ≡ false
  pub offer : Offers v → Offers v'

none_asks : (s : SinkState) → asks_in s s ≡ false
none_asks s = by_test (is_select s) where
  by_test : (b : Bool) → not b && b ≡ false
  by_test true = refl
  by_test false = refl

asks_join : (a b c : Bool) → not a && b ≡ false → not b && c ≡ false → not a && c ≡ false
asks_join true b c h k = refl
asks_join false true c h k = absurd (cc)
asks_join false false c h k = k

stays : (q : List ℕ) (v : View) → Goes q v v
stays q v = record { request = λ h. h; calm = none_asks v.sink.state; offer = λ h. h }

-- where nothing of it changes
pub same : (q : List ℕ) (v v' : View) → v' ≡ v → Goes q v v'
same q v v' e = subst (λ u. Goes q v u) (sym e) (stays q v)

-- one after the other
pub joins : (q : List ℕ) (v u z : View) → Goes q v u → Goes q u z → Goes q v z
joins q v u z h k = record {
  request = λ p. k.request (h.request p);
  calm = asks_join (is_select v.sink.state) (is_select u.sink.state) (is_select z.sink.state) h.calm k.calm;
  offer = λ p. k.offer (h.offer p);
}

-- ---- parts that leave it

pub noted_same : (f : Fault) (w : PortStep) → view (noted f w) ≡ view w
unfolding noted
noted_same f w = refl

pub layer_same : (side : Side) (c : Channel) (l : LayerRecord) (w : PortStep) → view (with_layer side c l w) ≡ view w
layer_same Source Sop l w = refl
layer_same Source SopPrime l w = refl
layer_same Sink c l w = refl
layer_same Plug c l w = refl

pub reset_same : (side : Side) (c : Channel) (w : PortStep) → view (reset_on side c w) ≡ view w
unfolding reset_on
reset_same side c w = layer_same side c _ w

pub line_same : (line : Line) (w : PortStep) → view (with_line line w) ≡ view w
unfolding with_line
line_same line w = refl

plug_waits_same : (x : Waiting) (w : PortStep) → view (wait Plug x w) ≡ view w
unfolding wait
plug_waits_same x w = refl

plug_act_same : (a : PlugAct) (w : PortStep) → view (plug_act a w) ≡ view w
plug_act_same plug_act_is.DropWaiting w = plug_waits_same _ w
plug_act_same (plug_act_is.SendIdentity objects) w = plug_waits_same _ w

plug_acts_same : (rest : List PlugAct) (w : PortStep) → view (plug_acts rest w) ≡ view w
plug_acts_same [] w = refl
plug_acts_same (a ∷ rest) w = plug_acts_same rest (plug_act a w) ∙ plug_act_same a w

pub plug_same : (t : ℕ) (x : PlugStimulus) (w : PortStep) → view (plug_steps t x w) ≡ view w
unfolding plug_steps
plug_same t x w = plug_acts_same (plug.acts_of t x w.port.plug) (with_port (record w.port { plug = plug.stepped t x w.port.plug }) w)

-- ---- the sink's step

sink_acts_view : (acts : List SinkAct) (w : PortStep) →
    view (sink_acts acts w) ≡ record (view w) { sink_waits = sink_left acts w.port.sink_waits }
unfolding wait noted reset_on
sink_acts_view [] w = refl
sink_acts_view (sink_act_is.DropWaiting ∷ rest) w = sink_acts_view rest (sink_act sink_act_is.DropWaiting w)
sink_acts_view (sink_act_is.ResetLayer ∷ rest) w = sink_acts_view rest (sink_act sink_act_is.ResetLayer w)
sink_acts_view (sink_act_is.Note n ∷ rest) w = sink_acts_view rest (sink_act (sink_act_is.Note n) w)
sink_acts_view (sink_act_is.Send s ∷ rest) w = sink_acts_view rest (sink_act (sink_act_is.Send s) w)
sink_acts_view (sink_act_is.SendHardReset ∷ rest) w = sink_acts_view rest (sink_act sink_act_is.SendHardReset w)

-- what is watched of a sink that has stepped
abbrev sunk : ℕ → SinkStimulus → PortStep → View
sunk t x w = record (view w) {
  sink = sink.stepped t x w.port.sink;
  sink_waits = sink_left (sink.acts_of t x w.port.sink) w.port.sink_waits;
}

sink_view : (t : ℕ) (x : SinkStimulus) (w : PortStep) → view (sink_steps t x w) ≡ sunk t x w
unfolding sink_steps
sink_view t x w = sink_acts_view (sink.acts_of t x w.port.sink) (with_port (record w.port { sink = sink.stepped t x w.port.sink }) w)

-- after it, what waits is the Request that was sent last
pub record Sinks (q : List ℕ) (v v' : View) : Type 0 where
  pub request : IsAsked q v.sink_waits → IsAsked (asked_next q v.sink v'.sink) v'.sink_waits
  pub offer : Offers v → Offers v'

pub sink_sinks : (q : List ℕ) (t : ℕ) (x : SinkStimulus) (w : PortStep) → Sinks q (view w) (view (sink_steps t x w))
sink_sinks q t x w =
    let k = sink_asks q t x w.port.sink w.port.sink_waits in
    subst (λ v. Sinks q (view w) v) (sym (sink_view t x w)) (record { request = k.waits; offer = λ h. h })

if_false : {A : Type 0} (b : Bool) (p r : A) → b ≡ false → (if b then p else r) ≡ r
if_false true p r h = absurd (cc)
if_false false p r h = refl

pub goes_sinks : (q : List ℕ) (v v' : View) → Goes q v v' → Sinks q v v'
goes_sinks q v v' h = record {
  request = λ p. subst (λ o. IsAsked o v'.sink_waits) (sym (if_false (asks_in v.sink.state v'.sink.state) (request_by
      (wish_of v'.sink)) q h.calm))
      (h.request p);
  offer = h.offer;
}

sunk_goes : (q : List ℕ) (t : ℕ) (x : SinkStimulus) (w : PortStep) → is_ended x ≡ false → Goes q (view w) (sunk t x w)
sunk_goes q t x w e =
    let k = sink_asks q t x w.port.sink w.port.sink_waits in
    let new = sink.stepped t x w.port.sink in
    let calm = k.calm e in
    record {
      request = λ p. subst (λ o. IsAsked o (sink_left (sink.acts_of t x w.port.sink) w.port.sink_waits))
          (if_false (asks_in w.port.sink.state new.state) (request_by (wish_of new)) q calm) (k.waits p);
      calm = calm;
      offer = λ h. h;
    }

pub sink_goes : (q : List ℕ) (t : ℕ) (x : SinkStimulus) (w : PortStep) → is_ended x ≡ false → Goes q (view w) (view (sink_steps t x w))
sink_goes q t x w e = subst (λ v. Goes q (view w) v) (sym (sink_view t x w)) (sunk_goes q t x w e)

-- ---- the source's step

-- the source is this, and what waits on it, and the sink goes on
record Sourced (q : List ℕ) (v v' : View) (waiting : Waiting) : Type 0 where
  source : v'.source ≡ v.source
  waits : v'.source_waits ≡ waiting
  request : IsAsked q v.sink_waits → IsAsked q v'.sink_waits
  calm : asks_in v.sink.state v'.sink.state ≡ false

source_acts_goes : (q : List ℕ) (t : ℕ) (acts : List SourceAct) (w : PortStep) →
    Sourced q (view w) (view (source_acts t acts w)) (source_left acts w.port.source_waits)
unfolding wait noted reset_on
source_acts_goes q t [] w = record { source = refl; waits = refl; request = λ h. h; calm = none_asks w.port.sink.state }
source_acts_goes q t (source_act_is.DropWaiting ∷ rest) w =
    let k = source_acts_goes q t rest (source_act t source_act_is.DropWaiting w) in
    record { source = k.source; waits = k.waits; request = k.request; calm = k.calm }
source_acts_goes q t (source_act_is.On ∷ rest) w =
    let u = sink_steps t sink_told.Vbus w in
    let e = sink_view t sink_told.Vbus w in
    let k = source_acts_goes q t rest u in
    let h = sink_goes q t sink_told.Vbus w refl in
    let same_waits : u.port.source_waits ≡ w.port.source_waits = ap (λ (v : View). v.source_waits) e in
    record {
      source = k.source ∙ ap (λ (v : View). v.source) e;
      waits = k.waits ∙ ap (source_left rest) same_waits;
      request = λ p. k.request (h.request p);
      calm = asks_join (is_select w.port.sink.state) (is_select u.port.sink.state)
          (is_select (source_acts t rest u).port.sink.state) h.calm k.calm;
    }
source_acts_goes q t (source_act_is.Off ∷ rest) w = source_acts_goes q t rest w
source_acts_goes q t (source_act_is.ResetLayer ∷ rest) w =
    let k = source_acts_goes q t rest (source_act t source_act_is.ResetLayer w) in
    record { source = k.source; waits = k.waits; request = k.request; calm = k.calm }
source_acts_goes q t (source_act_is.Note n ∷ rest) w =
    let k = source_acts_goes q t rest (source_act t (source_act_is.Note n) w) in
    record { source = k.source; waits = k.waits; request = k.request; calm = k.calm }
source_acts_goes q t (source_act_is.Send s ∷ rest) w =
    let k = source_acts_goes q t rest (source_act t (source_act_is.Send s) w) in
    record { source = k.source; waits = k.waits; request = k.request; calm = k.calm }
source_acts_goes q t (source_act_is.SendHardReset ∷ rest) w =
    let k = source_acts_goes q t rest (source_act t source_act_is.SendHardReset w) in
    record { source = k.source; waits = k.waits; request = k.request; calm = k.calm }

-- what waits on a source, by both
offers_by : (v : View) (d : SourceData) (x : Waiting) → v.source ≡ d → v.source_waits ≡ x → IsOffered d.settings d.record x → Offers v
offers_by v d x e f h =
    subst (λ (z : SourceData). IsOffered z.settings z.record v.source_waits) (sym e)
    (subst (λ (y : Waiting). IsOffered d.settings d.record y) (sym f) h)

pub source_goes : (q : List ℕ) (t : ℕ) (x : SourceStimulus) (w : PortStep) → Goes q (view w) (view (source_steps t x w))
unfolding source_steps
source_goes q t x w =
    let s = w.port.source in
    let acts = source.acts_of s.settings t x w.answer s.record in
    let u = source_after t x w in
    let k = source_acts_goes q t acts u in
    let d : SourceData = record s { «record» = source.stepped s.settings t x w.answer s.record } in
    record {
      request = k.request;
      calm = k.calm;
      offer = λ h. offers_by (view (source_acts t acts u)) d (source_left acts w.port.source_waits) k.source k.waits
          (source_offers s.settings t x w.answer s.record w.port.source_waits h);
    }
