-- What starts on the line: a Request that was sent last, and Source_Capabilities of the offer that is being made, or else a packet that is
-- sent again.
use Rattle.std.proofs.Common.{◌≡◌, ◌⊎◌, inl, inr, ℕ, ◌%◌, ◌^◌, ◌<◌, Bool, true, false, if◌then◌else◌, List, Option, None, Some}
use Rattle.std.proofs.Common.{Result, Ok, Err, refl, sym, ap, ◌∙◌, subst, arith, lit<}
use Rattle.pd_symbols.specs.declared.channel.Channel.{Channel}
use Rattle.pd_symbols.specs.declared.channel.Channel.TheVariants.{Sop, SopPrime}
use Rattle.pd_header.specs.declared.side.Side.{Side}
use Rattle.pd_header.specs.declared.side.Side.TheVariants.{Source, Sink, Plug}
use Rattle.pd_header.specs.declared.kind.Kind.TheVariants as kind
use Rattle.pd_header.specs.Header.{count_of, id_of, type_of}
use Rattle.pd_header.specs.Kinds.{kind_of, kind_of_header, number_of}
use Rattle.pd_header.proofs.Numbers.{numbers_come_back}
use Rattle.pd_packet.specs.Contents.{Contents}
use Rattle.pd_packet.specs.declared.fate.Fate.{Fate}
use Rattle.pd_protocol.specs.Layer as layer
use Rattle.pd_protocol.specs.LayerRecord.{LayerRecord, OutstandingData}
use Rattle.pd_protocol.specs.Messages.{MessageData, acknowledges, control, packet_of}
use Rattle.pd_protocol.specs.declared.layer.LayerAct.{LayerAct}
use Rattle.pd_protocol.specs.declared.layer.LayerAct.TheVariants as answer
use Rattle.pd_protocol.proofs.Headers.{count_is}
use Rattle.pd_protocol.proofs.Resent.{IsOfPacket, IsOfRetry, IsOfSent, packet_type, packet_objects, timed_out_sent}
use Rattle.pd_setup.specs.declared.sink.SinkRevision.{SinkRevision}
use Rattle.pd_setup.specs.declared.sink.SinkRevision.TheVariants.{Revision2, Revision3}
use Rattle.pd_setup.specs.Sinks.{SinkData, bits_of}
use Rattle.pd_source.specs.Acts.{capabilities}
use Rattle.pd_source.specs.Record.{SourceData, SourceRecord}
use Rattle.pd_source.specs.Step as source
use Rattle.pd_source.specs.declared.kinds.Revision.{Revision}
use Rattle.pd_source.specs.declared.kinds.Revision.TheVariants as spoken
use Rattle.pd_sink.specs.Record.{SinkRecord}
use Rattle.pd_sink.specs.Step as sink
use Rattle.pd_line.specs.declared.notes.Fault.{Fault}
use Rattle.pd_line.specs.declared.notes.Fault.TheVariants.{NoGoodCrc}
use Rattle.pd_line.specs.declared.notes.Start.{Start}
use Rattle.pd_line.specs.declared.notes.Start.TheVariants as start
use Rattle.pd_line.specs.declared.port_parts.Line.{Line}
use Rattle.pd_line.specs.declared.port_parts.Line.TheVariants.{Idle, Message, Pause, GoodCrc, NoAnswer, HardReset}
use Rattle.pd_line.specs.declared.port_parts.Waiting.{Waiting}
use Rattle.pd_line.specs.declared.port_parts.Waiting.TheVariants as waits
use Rattle.pd_line.specs.declared.port_step.PortStep.{PortStep}
use Rattle.pd_line.specs.PortStep.{noted, wait, layer_on, with_layer, on_layer, submit_on, timed_out_on, tells_failed}
use Rattle.pd_line.specs.Lines.{with_line, started, receiver, revision_on, is_idle, is_waiting, channel_for, taken, packet_starts}
use Rattle.pd_line.specs.Lines.{good_crc_starts, after_time_out, times_out, line_ends_at, submitted, message_starts, hard_reset_starts}
use Rattle.pd_line.specs.Lines.{waiting_starts, waiting_on, side_starts, line_starts}
use Rattle.pd_line.proofs.StepRelation.{StepRelation, of_any, Watched}
use Rattle.pd_line.proofs.RulesKeep.{noted_kept, tells_failed_kept, message_ends_kept, good_crc_ends_kept, hard_reset_ends_kept}
use Rattle.pd_line.proofs.Busy.{source_steps_line}
use Rattle.pd_why.specs.Facts.{offers_in}
use Rattle.pd_why.proofs.SinkSteps.{IsAsked}
use Rattle.pd_why.proofs.SourceSteps.{IsOffered}
use Rattle.pd_why.proofs.LineSteps.{View, view, Offers, layer_same}
use Rattle.pd_why.proofs.RuleSteps.{packet_same}

-- objects are of the offer that a source makes
abbrev pub OfOffer : SourceData → List ℕ → Type 0
OfOffer d objects =
    (offers_in d.record.state ≡ true)
    × (objects ≡ capabilities d.settings.unconstrained d.settings.supplies d.record.draft_offer)

-- what starts is a side's packet sent again, or, where it is a Request or Source_Capabilities, has these objects
abbrev pub StartFits : List ℕ → SourceData → (Side → Contents → Type 0) → Option Start → Type 0
StartFits q d again (Some (start.Packet Sink p fate)) = again Sink p ⊎ (type_of p.header ≡ number_of kind.Request → p.objects ≡ q)
StartFits q d again (Some (start.Packet Source p fate)) =
    again Source p ⊎ (kind_of_header p.header ≡ kind.SourceCapabilities → OfOffer d p.objects)
StartFits q d again s = Unit {0}

-- ---- a GoodCRC is neither

sink_bits : (o : Option SinkData) (r : SinkRecord) → sink.revision_bits (record r { sink = o }) < 2 ^ 2
sink_bits None r = lit< tt
sink_bits (Some s) r = by_revision s.revision where
  by_revision : (v : SinkRevision) → bits_of v < 2 ^ 2
  by_revision Revision2 = lit< tt
  by_revision Revision3 = lit< tt

source_bits : (v : Revision) (r : SourceRecord) → source.revision_bits (record r { revision = v }) < 2 ^ 2
source_bits spoken.Revision2 r = lit< tt
source_bits spoken.Revision3 r = lit< tt

revision_fits : (side : Side) (c : Channel) (w : PortStep) → revision_on side c w < 2 ^ 2
revision_fits Source Sop w = source_bits w.port.source.record.revision w.port.source.record
revision_fits Source SopPrime w = lit< tt
revision_fits Sink c w = sink_bits w.port.sink.sink w.port.sink
revision_fits Plug c w = lit< tt

id_fits : (header : ℕ) → id_of header < 2 ^ 3
unfolding id_of
id_fits header = omega arith

good_crc_type : (h : Side) (revision : ℕ) (p : Contents) → type_of (acknowledges h revision p).header ≡ 1
unfolding acknowledges
good_crc_type h revision p = packet_type h p.channel revision (id_of p.header) (control kind.GoodCrc)

good_crc_kind : (h : Side) (revision : ℕ) (p : Contents) → revision < 2 ^ 2 →
    kind_of_header (acknowledges h revision p).header ≡ kind.GoodCrc
unfolding acknowledges packet_of kind_of
good_crc_kind h revision p fits =
    let header = (acknowledges h revision p).header in
    let none : count_of header ≡ 0 = count_is h p.channel revision (id_of p.header) 1 0 fits (id_fits p.header) (lit< tt) (lit< tt) in
    ap (λ k. kind_of k (count_of header)) (good_crc_type h revision p) ∙ ap (kind_of 1) none

crc_fits : (q : List ℕ) (d : SourceData) (again : Side → Contents → Type 0) (h : Side) (revision : ℕ) (p : Contents) (fate : Fate) →
    revision < 2 ^ 2 →
    StartFits q d again (Some (start.Packet h (acknowledges h revision p) fate))
crc_fits q d again Source revision p fate fits =
    inr (λ e. absurd (let f : kind.GoodCrc ≡ kind.SourceCapabilities = sym (good_crc_kind Source revision p fits) ∙ e in cc))
crc_fits q d again Sink revision p fate fits =
    inr (λ e. absurd (let f : 1 ≡ 2 = sym (good_crc_type Sink revision p) ∙ e in omega arith))
crc_fits q d again Plug revision p fate fits = tt

-- ---- what falls due on the line

layer_start : (side : Side) (c : Channel) (l : LayerRecord) (w : PortStep) → (with_layer side c l w).start ≡ w.start
layer_start Source Sop l w = refl
layer_start Source SopPrime l w = refl
layer_start Sink c l w = refl
layer_start Plug c l w = refl

line_start : (line : Line) (w : PortStep) → (with_line line w).start ≡ w.start
unfolding with_line
line_start line w = refl

-- what starts nothing, though it may change the line
abbrev starts_none : (t : ℕ) → StepRelation t
starts_none t =
    record {
      holds = λ w f. (f w).start ≡ w.start;
      steps = Unit {0};
      touches = Unit {0};
      lines = Unit {0};
      starts = ⊥;
      nothing = λ w. refl;
      joins = λ f g w h k. k ∙ h;
      reads = λ A h g w b p. p;
      leaves = λ f w e b. ap (λ (x : Watched). x.start) e;
      sink = λ x w e. refl;
      plug = λ x w e. refl;
      source = λ s x w e. (source_steps_line t x w).start;
      layer = λ m c l w. layer_start Source c l w;
      line = λ l line w h. line_start line w;
      start = λ s. absurd s;
    }

-- where the line waits for a GoodCRC, the packet that its sender's layer has outstanding may go out again
abbrev pub IsUnanswered : (Side → Contents → Type 0) → Line → PortStep → Type 0
IsUnanswered again (NoAnswer side p end) w = IsOfSent (again side) (layer_on side p.channel w).outstanding
IsUnanswered again line w = Unit {0}

module _ (q : List ℕ) (d : SourceData) where
  -- nothing starts
  pub none_fits : (again : Side → Contents → Type 0) (s : Option Start) → s ≡ None → StartFits q d again s
  none_fits again s e = subst (StartFits q d again) (sym e) tt

  again_fits : (again : Side → Contents → Type 0) (side : Side) (p : Contents) (fate : Fate) → again side p →
      StartFits q d again (Some (start.Packet side p fate))
  again_fits again Source p fate e = inl e
  again_fits again Sink p fate e = inl e
  again_fits again Plug p fate e = tt

  module _ (again : Side → Contents → Type 0) where
    retry_fits : (side : Side) (p : Contents) (t : ℕ) (w : PortStep) → again side p →
        StartFits q d again (packet_starts side p t w).start
    unfolding packet_starts started
    retry_fits side p t w h = again_fits again side p (taken w).1 h

    time_out_fits : (side : Side) (p : Contents) (t : ℕ) (a : LayerAct) (w : PortStep) → IsOfRetry (again side) a → w.start ≡ None →
        StartFits q d again (after_time_out side p t a w).start
    time_out_fits side p t (answer.Retry r) w h e = retry_fits side r t w h
    time_out_fits side p t answer.Failed w h e =
        let f : Fault = NoGoodCrc side (kind_of_header p.header) in
        none_fits again (tells_failed side t (noted f w)).start
        (tells_failed_kept t (starts_none t) side (of_any (Unit {0}) side tt) (noted f w) ∙ noted_kept t (starts_none t) f w ∙ e)
    time_out_fits side p t a w h e = none_fits again w.start e

    pub line_fits : (line : Line) (t : ℕ) (w : PortStep) → IsUnanswered again line w → w.start ≡ None →
        StartFits q d again (line_ends_at line t w).start
    unfolding times_out timed_out_on good_crc_starts started
    line_fits Idle t w h e = none_fits again w.start e
    line_fits (Message side p fate end) t w h e =
        none_fits again (line_ends_at (Message side p fate end) t w).start (message_ends_kept t (starts_none t) tt side p fate w ∙ e)
    line_fits (Pause side p end) t w h e =
        let by = receiver side p.channel in
        crc_fits q d again by (revision_on by p.channel w) p (taken w).1 (revision_fits by p.channel w)
    line_fits (GoodCrc side p a fate end) t w h e =
        none_fits again (line_ends_at (GoodCrc side p a fate end) t w).start
        (good_crc_ends_kept t (starts_none t) tt tt tt side p a fate w ∙ e)
    line_fits (NoAnswer side p end) t w h e =
        let l = layer_on side p.channel w in
        let r = timed_out_on side p.channel w in
        time_out_fits side p t r.1 r.0 (timed_out_sent (again side) l h).1 (layer_start side p.channel (layer.timed_out l).0 w ∙ e)
    line_fits (HardReset side end) t w h e =
        none_fits again (line_ends_at (HardReset side end) t w).start (hard_reset_ends_kept t (starts_none t) tt tt side w ∙ e)

-- ---- what waits starts

-- what waits is as it should be, and so is what has started
pub record Fits (q : List ℕ) (again : Side → Contents → Type 0) (w : PortStep) : Type 0 where
  pub request : IsAsked q w.port.sink_waits
  pub offer : Offers (view w)
  pub begun : StartFits q w.port.source again w.start

-- the engines stay, and all fits
pub record Begins (q : List ℕ) (again : Side → Contents → Type 0) (w v : PortStep) : Type 0 where
  pub source : v.port.source ≡ w.port.source
  pub sink : v.port.sink ≡ w.port.sink
  pub fits : Fits q again v

-- what waits on a side
WaitFits : List ℕ → SourceData → Side → Waiting → Type 0
WaitFits q d Source x = IsOffered d.settings d.record x
WaitFits q d Sink x = IsAsked q x
WaitFits q d Plug x = Unit {0}

-- a packet of a message has its type and its objects
record IsOf (m : MessageData) (p : Contents) : Type 0 where
  number : type_of p.header ≡ m.kind % 2 ^ 5
  objects : p.objects ≡ m.objects

submits : (o : Option OutstandingData) (l : LayerRecord) (revision : ℕ) (m : MessageData) →
    IsOfPacket (IsOf m) m (layer.submitted o l revision m).1
submits None l revision m = record {
  number = packet_type l.side l.channel revision l.next_id m;
  objects = packet_objects l.side l.channel revision l.next_id m;
}
submits (Some o) l revision m = refl

module _ (q : List ℕ) (again : Side → Contents → Type 0) (t : ℕ) where
  unfolded_fits : (side : Side) (x : Waiting) (w : PortStep) → WaitFits q w.port.source side x → Fits q again w →
      Fits q again (wait side x w)
  unfolding wait WaitFits
  unfolded_fits Source x w k h = record { request = h.request; offer = k; begun = h.begun }
  unfolded_fits Sink x w k h = record { request = k; offer = h.offer; begun = h.begun }
  unfolded_fits Plug x w k h = record { request = h.request; offer = h.offer; begun = h.begun }

  wait_begins : (side : Side) (x : Waiting) (w : PortStep) → WaitFits q w.port.source side x → Fits q again w →
      Begins q again w (wait side x w)
  unfolding wait
  wait_begins Source x w k h = record { source = refl; sink = refl; fits = unfolded_fits Source x w k h }
  wait_begins Sink x w k h = record { source = refl; sink = refl; fits = unfolded_fits Sink x w k h }
  wait_begins Plug x w k h = record { source = refl; sink = refl; fits = unfolded_fits Plug x w k h }

  -- what leaves all that is watched, and starts this
  begins_by : (w v : PortStep) → view v ≡ view w → StartFits q w.port.source again v.start → Fits q again w → Begins q again w v
  begins_by w v e s h = record {
    source = ap (λ (z : View). z.source) e;
    sink = ap (λ (z : View). z.sink) e;
    fits = record {
      request = subst (λ (z : View). IsAsked q z.sink_waits) (sym e) h.request;
      offer = subst Offers (sym e) h.offer;
      begun = subst (λ (z : View). StartFits q z.source again v.start) (sym e) s;
    };
  }

  message_fits : (side : Side) (m : MessageData) (p : Contents) (fate : Fate) (d : SourceData) → WaitFits q d side (waits.Message m) →
      IsOf m p → StartFits q d again (Some (start.Packet side p fate))
  unfolding WaitFits
  message_fits Source m p fate d k h =
      inr (λ e.
      let n : m.kind % 2 ^ 5 ≡ number_of kind.SourceCapabilities =
      sym h.number ∙ sym (numbers_come_back (type_of p.header) (count_of p.header)) ∙ ap number_of e in
      let f = k n in (f.0, h.objects ∙ f.1))
  message_fits Sink m p fate d k h = inr (λ e. h.objects ∙ k (sym h.number ∙ e))
  message_fits Plug m p fate d k h = tt

  packet_begins : (side : Side) (m : MessageData) (p : Contents) (w : PortStep) → WaitFits q w.port.source side (waits.Message m) →
      IsOf m p →
      Fits q again w → Begins q again w (packet_starts side p t w)
  unfolding packet_starts started
  packet_begins side m p w k h f =
      begins_by w (packet_starts side p t w) (packet_same q t side p w) (message_fits side m p (taken w).1 w.port.source k h) f

  submitted_begins : (side : Side) (m : MessageData) (o : Result Contents MessageData) (w : PortStep) →
      WaitFits q w.port.source side (waits.Message m) → IsOfPacket (IsOf m) m o → Fits q again w →
      Begins q again w (submitted side t (w, o))
  submitted_begins side m (Ok p) w k h f = packet_begins side m p w k h f
  submitted_begins side m (Err n) w k h f =
      wait_begins side (waits.Message n) w (subst (λ (x : MessageData). WaitFits q w.port.source side (waits.Message x)) (sym h) k) f

  chain : (w v u : PortStep) → Begins q again w v → Begins q again v u → Begins q again w u
  chain w v u h k = record { source = k.source ∙ h.source; sink = k.sink ∙ h.sink; fits = k.fits }

  message_begins : (side : Side) (m : MessageData) (w : PortStep) → WaitFits q w.port.source side (waits.Message m) → Fits q again w →
      Begins q again w (message_starts side m t w)
  unfolding message_starts submit_on layer.submit
  message_begins side m w k f =
      let c = channel_for side m.kind in
      let l = layer_on side c w in
      let call : LayerRecord → LayerRecord × Result Contents MessageData = λ x. layer.submit x (revision_on side c w) m in
      let r = on_layer side c call w in
      let e = layer_same side c (call l).0 w in
      let h = begins_by w r.0 e
      (subst (StartFits q w.port.source again) (sym (layer_start side c (call l).0 w)) f.begun) f in
      chain w r.0 (submitted side t r) h
      (submitted_begins side m r.1 r.0 (subst (λ (s : SourceData). WaitFits q s side (waits.Message m)) (sym h.source) k)
      (submits l.outstanding l (revision_on side c w) m) h.fits)

  hard_reset_begins : (side : Side) (w : PortStep) → Fits q again w → Begins q again w (hard_reset_starts side t w)
  unfolding hard_reset_starts started with_line
  hard_reset_begins side w f = begins_by w (hard_reset_starts side t w) refl tt f

  nothing_begins : (w : PortStep) → Fits q again w → Begins q again w w
  nothing_begins w f = record { source = refl; sink = refl; fits = f }

  waiting_begins : (side : Side) (x : Waiting) (w : PortStep) → WaitFits q w.port.source side x → Fits q again w →
      Begins q again w (waiting_starts side t x w)
  waiting_begins side waits.Nothing w k f = nothing_begins w f
  waiting_begins side (waits.Message m) w k f = message_begins side m w k f
  waiting_begins side waits.HardReset w k f = hard_reset_begins side w f

  waits_so : (side : Side) (w : PortStep) → Fits q again w → WaitFits q w.port.source side (waiting_on side w)
  unfolding WaitFits
  waits_so Source w f = f.offer
  waits_so Sink w f = f.request
  waits_so Plug w f = tt

  none_waits : (side : Side) (d : SourceData) → WaitFits q d side waits.Nothing
  unfolding WaitFits
  none_waits Source d = tt
  none_waits Sink d = tt
  none_waits Plug d = tt

  side_begins : (side : Side) (w : PortStep) → Fits q again w → Begins q again w (side_starts side t w)
  unfolding side_starts
  side_begins side w f =
      let v = wait side waits.Nothing w in
      let x = waiting_on side w in
      let h = wait_begins side waits.Nothing w (none_waits side w.port.source) f in
      chain w v (waiting_starts side t x v) h
      (waiting_begins side x v (subst (λ (s : SourceData). WaitFits q s side x) (sym h.source) (waits_so side w f)) h.fits)

  either : (b : Bool) (w v u : PortStep) → Begins q again w v → Begins q again w u → Begins q again w (if b then v else u)
  either true w v u h k = h
  either false w v u h k = k

  pub starts_begin : (w : PortStep) → Fits q again w → Begins q again w (line_starts t w)
  unfolding line_starts
  starts_begin w f =
      let plugs = either (is_waiting w.port.plug_waits) w (side_starts Plug t w) w (side_begins Plug w f) (nothing_begins w f) in
      let sinks = either (is_waiting w.port.sink_waits) w (side_starts Sink t w) _ (side_begins Sink w f) plugs in
      let all = either (is_waiting w.port.source_waits) w (side_starts Source t w) _ (side_begins Source w f) sinks in
      either (is_idle w.port.line) w _ w all (nothing_begins w f)
