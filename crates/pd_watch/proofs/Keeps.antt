-- What the rules of a line do to what is watched of a port: they leave it as it is, but for a packet that starts and takes the first
-- disturbance.
use Rattle.std.proofs.Common.{◌≡◌, ℕ, ◌+◌, Bool, true, false, ◌||◌, if◌then◌else◌, ◌⊎◌, inl, inr, List, [], ◌∷◌, ◌++◌, drop, map, Option}
use Rattle.std.proofs.Common.{None, Some, Result, Ok, Err, refl, sym, ap, ◌∙◌, subst}
use Rattle.std.specs.List.{list_any}
use Rattle.pd_symbols.specs.declared.channel.Channel.{Channel}
use Rattle.pd_symbols.specs.declared.channel.Channel.TheVariants.{Sop, SopPrime}
use Rattle.pd_header.specs.declared.side.Side.{Side}
use Rattle.pd_header.specs.declared.side.Side.TheVariants.{Source, Sink, Plug}
use Rattle.pd_header.specs.Header.{id_of}
use Rattle.pd_header.specs.Kinds.{kind_of_header}
use Rattle.pd_identity.specs.declared.Cable.{Cable}
use Rattle.pd_packet.specs.Contents.{Contents}
use Rattle.pd_packet.specs.Hearing.{heard}
use Rattle.pd_packet.specs.declared.fate.Fate.{Fate}
use Rattle.pd_packet.specs.declared.fate.Fate.TheVariants.{Undisturbed}
use Rattle.pd_protocol.specs.Messages.{MessageData, acknowledges}
use Rattle.pd_protocol.specs.Layer as layer
use Rattle.pd_protocol.specs.LayerRecord.{LayerRecord}
use Rattle.pd_protocol.specs.declared.layer.LayerAct.{LayerAct}
use Rattle.pd_protocol.specs.declared.layer.LayerAct.TheVariants as answer
use Rattle.pd_timers.specs.declared.Timer.{Timer}
use Rattle.pd_setup.specs.Sinks.{SinkData}
use Rattle.pd_source.specs.Step as source
use Rattle.pd_source.specs.declared.kinds.Act.{Act as SourceAct}
use Rattle.pd_source.specs.declared.kinds.Act.TheVariants as source_act_is
use Rattle.pd_source.specs.declared.kinds.Note.{Note as SourceNote}
use Rattle.pd_source.specs.declared.kinds.Note.TheVariants as source_note
use Rattle.pd_source.specs.declared.kinds.Sent.{Sent}
use Rattle.pd_source.specs.declared.kinds.Sent.TheVariants as sent
use Rattle.pd_source.specs.declared.kinds.Stimulus.{Stimulus as SourceStimulus}
use Rattle.pd_source.specs.declared.kinds.Stimulus.TheVariants as source_told
use Rattle.pd_sink.specs.Step as sink
use Rattle.pd_sink.specs.declared.kinds.Act.{Act as SinkAct}
use Rattle.pd_sink.specs.declared.kinds.Act.TheVariants as sink_act_is
use Rattle.pd_sink.specs.declared.kinds.Note.{Note as SinkNote}
use Rattle.pd_sink.specs.declared.kinds.Note.TheVariants as sink_note
use Rattle.pd_sink.specs.declared.kinds.Stimulus.{Stimulus as SinkStimulus}
use Rattle.pd_sink.specs.declared.kinds.Stimulus.TheVariants as sink_told
use Rattle.pd_plug.specs.Step as plug
use Rattle.pd_plug.specs.declared.kinds.Act.{Act as PlugAct}
use Rattle.pd_plug.specs.declared.kinds.Act.TheVariants as plug_act_is
use Rattle.pd_plug.specs.declared.kinds.Stimulus.{Stimulus as PlugStimulus}
use Rattle.pd_plug.specs.declared.kinds.Stimulus.TheVariants as plug_told
use Rattle.pd_line.specs.declared.notes.Fault.{Fault}
use Rattle.pd_line.specs.declared.notes.Fault.TheVariants.{NoGoodCrc}
use Rattle.pd_line.specs.declared.notes.Start.{Start}
use Rattle.pd_line.specs.declared.notes.Start.TheVariants as start
use Rattle.pd_line.specs.declared.disturbances.Disturbance.{Disturbance}
use Rattle.pd_line.specs.declared.disturbances.Disturbance.TheVariants as disturbance
use Rattle.pd_line.specs.declared.port_parts.Line.{Line}
use Rattle.pd_line.specs.declared.port_parts.Line.TheVariants.{Idle, Message, Pause, GoodCrc, NoAnswer, HardReset}
use Rattle.pd_line.specs.declared.port_parts.Waiting.{Waiting}
use Rattle.pd_line.specs.declared.port_parts.Waiting.TheVariants as waits
use Rattle.pd_line.specs.declared.port_step.PortStep.{PortStep}
use Rattle.pd_line.specs.Told.{source_hears_as, sink_hears_as, plug_hears_as, sent_as, sink_fault, source_fault}
use Rattle.pd_line.specs.PortStep.{with_port, noted, wait, layer_on, with_layer, on_layer, submit_on, good_crc_on, timed_out_on}
use Rattle.pd_line.specs.PortStep.{received_on, reset_on, sink_act, sink_acts, sink_steps, plug_act, plug_acts, plug_steps}
use Rattle.pd_line.specs.PortStep.{source_act, source_acts, source_after, source_steps, tells_sent, tells_failed, tells_message}
use Rattle.pd_line.specs.PortStep.{tells_reset, tells_timer, tells_attach}
use Rattle.pd_line.specs.Lines.{lasts, with_line, started, receiver, hears, revision_on}
use Rattle.pd_line.specs.Lines.{fate_of, taken_from, taken, packet_starts, good_crc_starts, message_heard, message_ends}
use Rattle.pd_line.specs.Lines.{told_sent, acknowledged, told_message, goes_up, good_crc_ends, after_time_out, times_out}
use Rattle.pd_line.specs.Lines.{is_side, waiting_dropped, layers_reset, hears_reset, all_hear_reset, hard_reset_ends}
use Rattle.pd_line.specs.Lines.{line_ends, line_ends_at, submitted, message_starts, hard_reset_starts, waiting_starts, waiting_on}
use Rattle.pd_line.specs.Lines.{side_starts, is_idle, is_waiting, line_starts, channel_for}
use Rattle.pd_watch.specs.Watch.{ignores, is_disturbed}

-- what is watched of a step under way
pub record View : Type 0 where
  pub cable : Option Cable
  pub row : List Disturbance
  pub ignored : Bool
  pub start : Option Start

abbrev pub view : PortStep → View
view w = record {
  cable = w.port.cable;
  row = w.port.disturbances;
  ignored = list_any ignores w.faults.items;
  start = w.start;
}

-- what is left of the disturbances that wait where this starts
abbrev pub left : Option Start → List Disturbance → List Disturbance
left (Some (start.Packet side packet fate)) row = if is_disturbed fate then drop 1 row else row
left _ row = row

-- the first of what disturbances that wait make of packets
abbrev pub first_fate : List Fate → Fate
first_fate [] = Undisturbed
first_fate (fate ∷ rest) = fate

-- what starts has the first of these fates
abbrev pub IsFated : Option Start → List Fate → Type 0
IsFated (Some (start.Packet side packet fate)) fates = fate ≡ first_fate fates
IsFated _ fates = Unit

-- something starts or nothing, and takes its disturbance; all else stays
pub record Took (v v' : View) : Type 0 where
  pub cable_is : v'.cable ≡ v.cable
  pub ignored_is : v'.ignored ≡ v.ignored
  pub row_is : v'.row ≡ left v'.start v.row
  pub fated : IsFated v'.start (map fate_of v.row)

-- all stays, or something has started and the line is busy
abbrev pub Outcome : PortStep → PortStep → Type 0
Outcome w w' = (view w' ≡ view w) ⊎ (Took (view w) (view w') × (is_idle w'.port.line ≡ false))

-- ---- notes, what waits, and the layers

any_push : (fs : List Fault) (f : Fault) → ignores f ≡ false → list_any ignores (fs ++ f ∷ []) ≡ list_any ignores fs
any_push [] f e = rw e refl
any_push (x ∷ xs) f e = ap (λ b. ignores x || b) (any_push xs f e)

noted_same : (f : Fault) (w : PortStep) → ignores f ≡ false → view (noted f w) ≡ view w
unfolding noted
noted_same f w e =
    let make : Bool → View = λ b. record { cable = w.port.cable; row = w.port.disturbances; ignored = b; start = w.start } in
    ap make (any_push w.faults.items f e)

wait_same : (side : Side) (x : Waiting) (w : PortStep) → view (wait side x w) ≡ view w
unfolding wait
wait_same Source x w = refl
wait_same Sink x w = refl
wait_same Plug x w = refl

layer_same : (side : Side) (c : Channel) (l : LayerRecord) (w : PortStep) → view (with_layer side c l w) ≡ view w
layer_same Source Sop l w = refl
layer_same Source SopPrime l w = refl
layer_same Sink c l w = refl
layer_same Plug c l w = refl

reset_same : (side : Side) (c : Channel) (w : PortStep) → view (reset_on side c w) ≡ view w
unfolding reset_on
reset_same side c w = layer_same side c _ w

line_same : (line : Line) (w : PortStep) → view (with_line line w) ≡ view w
unfolding with_line
line_same line w = refl

-- ---- the engines

sink_note_is : (n : SinkNote) → ignores (sink_fault n) ≡ false
sink_note_is sink_note.SoftReset = refl
sink_note_is sink_note.HardReset = refl
sink_note_is sink_note.Disabled = refl
sink_note_is sink_note.Mismatch = refl

source_note_is : (n : SourceNote) → ignores (source_fault n) ≡ false
source_note_is source_note.SoftReset = refl
source_note_is source_note.HardReset = refl
source_note_is source_note.Disabled = refl
source_note_is source_note.CableUnread = refl
source_note_is source_note.Reject = refl
source_note_is source_note.Wait = refl

sink_act_same : (a : SinkAct) (w : PortStep) → view (sink_act a w) ≡ view w
sink_act_same sink_act_is.DropWaiting w = wait_same Sink _ w
sink_act_same sink_act_is.ResetLayer w = reset_same Sink Sop w
sink_act_same (sink_act_is.Note n) w = noted_same (sink_fault n) w (sink_note_is n)
sink_act_same (sink_act_is.Send m) w = wait_same Sink _ w
sink_act_same sink_act_is.SendHardReset w = wait_same Sink _ w

sink_acts_same : (acts : List SinkAct) (w : PortStep) → view (sink_acts acts w) ≡ view w
sink_acts_same [] w = refl
sink_acts_same (a ∷ rest) w = sink_acts_same rest (sink_act a w) ∙ sink_act_same a w

pub sink_same : (t : ℕ) (x : SinkStimulus) (w : PortStep) → view (sink_steps t x w) ≡ view w
unfolding sink_steps
sink_same t x w = sink_acts_same (sink.acts_of t x w.port.sink) (with_port (record w.port { sink = sink.stepped t x w.port.sink }) w)

plug_act_same : (a : PlugAct) (w : PortStep) → view (plug_act a w) ≡ view w
plug_act_same plug_act_is.DropWaiting w = wait_same Plug _ w
plug_act_same (plug_act_is.SendIdentity objects) w = wait_same Plug _ w

plug_acts_same : (acts : List PlugAct) (w : PortStep) → view (plug_acts acts w) ≡ view w
plug_acts_same [] w = refl
plug_acts_same (a ∷ rest) w = plug_acts_same rest (plug_act a w) ∙ plug_act_same a w

pub plug_same : (t : ℕ) (x : PlugStimulus) (w : PortStep) → view (plug_steps t x w) ≡ view w
unfolding plug_steps
plug_same t x w = plug_acts_same (plug.acts_of t x w.port.plug) (with_port (record w.port { plug = plug.stepped t x w.port.plug }) w)

source_act_same : (t : ℕ) (a : SourceAct) (w : PortStep) → view (source_act t a w) ≡ view w
source_act_same t source_act_is.DropWaiting w = wait_same Source _ w
source_act_same t source_act_is.On w = sink_same t sink_told.Vbus w
source_act_same t source_act_is.Off w = refl
source_act_same t source_act_is.ResetLayer w = reset_same Source Sop w
source_act_same t (source_act_is.Note n) w = noted_same (source_fault n) w (source_note_is n)
source_act_same t (source_act_is.Send m) w = wait_same Source _ w
source_act_same t source_act_is.SendHardReset w = wait_same Source _ w

source_acts_same : (t : ℕ) (acts : List SourceAct) (w : PortStep) → view (source_acts t acts w) ≡ view w
source_acts_same t [] w = refl
source_acts_same t (a ∷ rest) w = source_acts_same t rest (source_act t a w) ∙ source_act_same t a w

pub source_same : (t : ℕ) (x : SourceStimulus) (w : PortStep) → view (source_steps t x w) ≡ view w
unfolding source_steps
source_same t x w =
    source_acts_same t (source.acts_of w.port.source.settings t x w.answer w.port.source.record) (source_after t x w)

sent_same : (side : Side) (m : Sent) (t : ℕ) (w : PortStep) → view (tells_sent side m t w) ≡ view w
unfolding tells_sent
sent_same Source m t w = source_same t (source_told.Sent m) w
sent_same Sink m t w = sink_same t sink_told.Sent w
sent_same Plug m t w = plug_same t plug_told.Sent w

failed_same : (side : Side) (t : ℕ) (w : PortStep) → view (tells_failed side t w) ≡ view w
unfolding tells_failed
failed_same Source t w = source_same t source_told.Failed w
failed_same Sink t w = sink_same t sink_told.Failed w
failed_same Plug t w = plug_same t plug_told.Failed w

message_same : (side : Side) (p : Contents) (t : ℕ) (w : PortStep) → view (tells_message side p t w) ≡ view w
unfolding tells_message
message_same Source p t w = source_same t (source_hears_as (kind_of_header p.header) p.header p.objects) w
message_same Sink p t w = sink_same t (sink_hears_as (kind_of_header p.header) p.objects) w
message_same Plug p t w = plug_same t (plug_hears_as (kind_of_header p.header) p.objects) w

told_reset_same : (side : Side) (t : ℕ) (w : PortStep) → view (tells_reset side t w) ≡ view w
unfolding tells_reset
told_reset_same Source t w = source_same t source_told.HardReset w
told_reset_same Sink t w = sink_same t sink_told.HardReset w
told_reset_same Plug t w = plug_same t plug_told.HardReset w

pub timer_same : (side : Side) (timer : Timer) (t : ℕ) (w : PortStep) → view (tells_timer side timer t w) ≡ view w
unfolding tells_timer
timer_same Source timer t w = source_same t (source_told.Ended timer) w
timer_same Sink timer t w = sink_same t (sink_told.Ended timer) w
timer_same Plug timer t w = plug_same t (plug_told.Ended timer) w

-- a cable is attached, and that is all that is seen of it
pub attach_view : (cable : Cable) (device : SinkData) (t : ℕ) (w : PortStep)
    → view (tells_attach cable device t w) ≡ record (view w) { cable = Some cable }
unfolding tells_attach
attach_view cable device t w =
    let a : PortStep = with_port (record w.port { cable = Some cable }) w in
    let b : PortStep = source_steps t source_told.Attach a in
    let c : PortStep = sink_steps t (sink_told.Attach device) b in
    plug_same t (plug_told.Attach cable) c ∙ sink_same t (sink_told.Attach device) b ∙ source_same t source_told.Attach a

-- ---- what starts

-- from a step that looks the same
pub took_on : (v w v' : View) → v ≡ w → Took v v' → Took w v'
took_on v w v' e h = subst (λ (x : View). Took x v') e h

pub out_on : (v w w' : PortStep) → view v ≡ view w → Outcome v w' → Outcome w w'
out_on v w w' e h =
    elim h as (λ x. Outcome w w') [ inl same ↦ inl (same ∙ e) | inr took ↦ inr (took_on (view v) (view w) (view w') e took.0, took.1) ]

-- where nothing has started, all that stays has taken nothing
pub same_took : (v v' : View) → v.start ≡ None → v' ≡ v → Took v v'
same_took v v' none e = record {
  cable_is = ap (λ (x : View). x.cable) e;
  ignored_is = ap (λ (x : View). x.ignored) e;
  row_is = ap (λ (x : View). x.row) e ∙ ap (λ s. left s v.row) (sym (ap (λ (x : View). x.start) e ∙ none));
  fated = subst (λ s. IsFated s (map fate_of v.row)) (sym (ap (λ (x : View). x.start) e ∙ none)) tt;
}

one_less : (d : Disturbance) (side : Side) (p : Contents) (row : List Disturbance)
    → left (Some (start.Packet side p (fate_of d))) row ≡ drop 1 row
one_less disturbance.Lost side p row = refl
one_less (disturbance.Damaged damage) side p row = refl

-- a packet that starts takes the first disturbance that waits
drew : (side : Side) (p : Contents) (line : Fate → Line) (w : PortStep)
    → Took (view w) (view (started (start.Packet side p (taken w).1) (with_line (line (taken w).1) (taken w).0)))
unfolding taken started with_line
drew side p line w = by_row w.port.disturbances refl where
  by_row : (row : List Disturbance) → w.port.disturbances ≡ row
      → let r = taken_from row w in Took (view w) (view (started (start.Packet side p r.1) (with_line (line r.1) r.0)))
  by_row [] e = record {
    cable_is = refl;
    ignored_is = refl;
    row_is = refl;
    fated = ap (λ (ds : List Disturbance). first_fate (map fate_of ds)) (sym e);
  }
  by_row (d ∷ rest) e = record {
    cable_is = refl;
    ignored_is = refl;
    row_is = ap (drop 1) (sym e) ∙ sym (one_less d side p w.port.disturbances);
    fated = ap (λ (ds : List Disturbance). first_fate (map fate_of ds)) (sym e);
  }

packet_out : (side : Side) (p : Contents) (t : ℕ) (w : PortStep) → Outcome w (packet_starts side p t w)
unfolding packet_starts started with_line
packet_out side p t w = inr (drew side p (λ fate. Message side p fate (t + lasts p)) w, refl)

good_crc_out : (side : Side) (p : Contents) (t : ℕ) (w : PortStep) → Outcome w (good_crc_starts side p t w)
unfolding good_crc_starts started with_line
good_crc_out side p t w =
    let hearer = receiver side p.channel in
    let a : Contents = acknowledges hearer (revision_on hearer p.channel w) p in
    inr (drew hearer a (λ fate. GoodCrc side p a fate (t + lasts a)) w, refl)

-- ---- what ends

heard_same : (side : Side) (p : Contents) (t : ℕ) (q : Option Contents) (w : PortStep) → view (message_heard side p t q w) ≡ view w
heard_same side p t None w = line_same _ w
heard_same side p t (Some q) w = line_same _ w

message_ends_same : (side : Side) (p : Contents) (fate : Fate) (t : ℕ) (w : PortStep) → view (message_ends side p fate t w) ≡ view w
unfolding message_ends
message_ends_same side p fate t w = heard_same side p t (if hears (receiver side p.channel) w then heard p fate else None) w

told_sent_same : (side : Side) (p : Contents) (t : ℕ) (a : LayerAct) (w : PortStep) → view (told_sent side p t a w) ≡ view w
told_sent_same side p t answer.Sent w = sent_same side (sent_as (kind_of_header p.header)) t w
told_sent_same side p t a w = refl

acknowledged_same : (side : Side) (p : Contents) (t : ℕ) (a : Option Contents) (w : PortStep) → view (acknowledged side p t a w) ≡ view w
unfolding good_crc_on
acknowledged_same side p t None w = line_same _ w
acknowledged_same side p t (Some a) w =
    let call : LayerRecord → LayerRecord × LayerAct = λ x. layer.good_crc x (id_of a.header) in
    let r = on_layer side p.channel call w in
    told_sent_same side p t r.1 r.0 ∙ layer_same side p.channel (call (layer_on side p.channel w)).0 w

told_message_same : (side : Side) (p : Contents) (t : ℕ) (a : LayerAct) (w : PortStep) → view (told_message side p t a w) ≡ view w
told_message_same side p t answer.Up w = message_same side p t w
told_message_same side p t a w = refl

goes_up_same : (side : Side) (p : Contents) (t : ℕ) (w : PortStep) → view (goes_up side p t w) ≡ view w
unfolding goes_up received_on
goes_up_same side p t w =
    let call : LayerRecord → LayerRecord × LayerAct = λ x. layer.received x p.header in
    let r = on_layer side p.channel call w in
    told_message_same side p t r.1 r.0 ∙ layer_same side p.channel (call (layer_on side p.channel w)).0 w

good_crc_ends_same : (side : Side) (p a : Contents) (fate : Fate) (t : ℕ) (w : PortStep) → view (good_crc_ends side p a fate t w) ≡ view w
unfolding good_crc_ends
good_crc_ends_same side p a fate t w =
    goes_up_same (receiver side p.channel) p t (acknowledged side p t (heard a fate) w) ∙ acknowledged_same side p t (heard a fate) w

after_time_out_out : (side : Side) (p : Contents) (t : ℕ) (a : LayerAct) (w : PortStep) → Outcome w (after_time_out side p t a w)
after_time_out_out side p t (answer.Retry q) w = packet_out side q t w
after_time_out_out side p t answer.Failed w =
    let f : Fault = NoGoodCrc side (kind_of_header p.header) in
    inl (failed_same side t (noted f w) ∙ noted_same f w refl)
after_time_out_out side p t a w = inl refl

times_out_out : (side : Side) (p : Contents) (t : ℕ) (w : PortStep) → Outcome w (times_out side p t w)
unfolding times_out timed_out_on
times_out_out side p t w =
    let r = on_layer side p.channel layer.timed_out w in
    out_on r.0 w (after_time_out side p t r.1 r.0) (layer_same side p.channel (layer.timed_out (layer_on side p.channel w)).0 w)
    (after_time_out_out side p t r.1 r.0)

waiting_dropped_same : (w : PortStep) → view (waiting_dropped w) ≡ view w
unfolding waiting_dropped
waiting_dropped_same w =
    let a : PortStep = wait Source waits.Nothing w in
    let b : PortStep = wait Sink waits.Nothing a in
    wait_same Plug waits.Nothing b ∙ wait_same Sink waits.Nothing a ∙ wait_same Source waits.Nothing w

layers_reset_same : (w : PortStep) → view (layers_reset w) ≡ view w
unfolding layers_reset
layers_reset_same w =
    let a : PortStep = reset_on Source Sop w in
    let b : PortStep = reset_on Sink Sop a in
    let c : PortStep = reset_on Source SopPrime b in
    reset_same Plug SopPrime c ∙ reset_same Source SopPrime b ∙ reset_same Sink Sop a ∙ reset_same Source Sop w

choice_same : (b : Bool) (f g w : PortStep) → view f ≡ view w → view g ≡ view w → view (if b then f else g) ≡ view w
choice_same true f g w p q = p
choice_same false f g w p q = q

hears_reset_same : (sender side : Side) (t : ℕ) (w : PortStep) → view (hears_reset sender side t w) ≡ view w
unfolding hears_reset
hears_reset_same sender side t w =
    choice_same (is_side side sender) w (if hears side w then tells_reset side t w else w) w refl
    (choice_same (hears side w) (tells_reset side t w) w w (told_reset_same side t w) refl)

hard_reset_ends_same : (sender : Side) (t : ℕ) (w : PortStep) → view (hard_reset_ends sender t w) ≡ view w
unfolding hard_reset_ends all_hear_reset
hard_reset_ends_same sender t w =
    let a : PortStep = waiting_dropped w in
    let b : PortStep = layers_reset a in
    let c : PortStep = tells_sent sender sent.Other t b in
    let d : PortStep = hears_reset sender Source t c in
    let e : PortStep = hears_reset sender Sink t d in
    hears_reset_same sender Plug t e ∙ hears_reset_same sender Sink t d ∙ hears_reset_same sender Source t c
    ∙ sent_same sender sent.Other t b ∙ layers_reset_same a ∙ waiting_dropped_same w

line_ends_at_out : (line : Line) (t : ℕ) (w : PortStep) → Outcome w (line_ends_at line t w)
line_ends_at_out Idle t w = inl refl
line_ends_at_out (Message side p fate end) t w = inl (message_ends_same side p fate t w)
line_ends_at_out (Pause side p end) t w = good_crc_out side p t w
line_ends_at_out (GoodCrc side p a fate end) t w = inl (good_crc_ends_same side p a fate t w)
line_ends_at_out (NoAnswer side p end) t w = times_out_out side p t w
line_ends_at_out (HardReset side end) t w = inl (hard_reset_ends_same side t w)

pub line_ends_out : (t : ℕ) (w : PortStep) → Outcome w (line_ends t w)
unfolding line_ends
line_ends_out t w =
    out_on (with_line Idle w) w (line_ends_at w.port.line t (with_line Idle w)) (line_same Idle w)
    (line_ends_at_out w.port.line t (with_line Idle w))

-- ---- what waits starts

-- an outcome of a step in which nothing has started
out_took : (w w' : PortStep) → w.start ≡ None → Outcome w w' → Took (view w) (view w')
out_took w w' none h =
    elim h as (λ x. Took (view w) (view w')) [ inl same ↦ same_took (view w) (view w') none same | inr took ↦ took.0 ]

submitted_out : (side : Side) (t : ℕ) (r : Result Contents MessageData) (w : PortStep) → Outcome w (submitted side t (w, r))
submitted_out side t (Ok p) w = packet_out side p t w
submitted_out side t (Err m) w = inl (wait_same side (waits.Message m) w)

message_starts_out : (side : Side) (m : MessageData) (t : ℕ) (w : PortStep) → Outcome w (message_starts side m t w)
unfolding message_starts submit_on
message_starts_out side m t w =
    let c = channel_for side m.kind in
    let call : LayerRecord → LayerRecord × Result Contents MessageData = λ x. layer.submit x (revision_on side c w) m in
    let r = on_layer side c call w in
    out_on r.0 w (submitted side t r) (layer_same side c (call (layer_on side c w)).0 w) (submitted_out side t r.1 r.0)

hard_reset_starts_out : (side : Side) (t : ℕ) (w : PortStep) → Outcome w (hard_reset_starts side t w)
unfolding hard_reset_starts started with_line
hard_reset_starts_out side t w = inr (record { cable_is = refl; ignored_is = refl; row_is = refl; fated = tt }, refl)

waiting_starts_out : (side : Side) (t : ℕ) (x : Waiting) (w : PortStep) → Outcome w (waiting_starts side t x w)
waiting_starts_out side t waits.Nothing w = inl refl
waiting_starts_out side t (waits.Message m) w = message_starts_out side m t w
waiting_starts_out side t waits.HardReset w = hard_reset_starts_out side t w

side_starts_out : (side : Side) (t : ℕ) (w : PortStep) → Outcome w (side_starts side t w)
unfolding side_starts
side_starts_out side t w =
    out_on (wait side waits.Nothing w) w (waiting_starts side t (waiting_on side w) (wait side waits.Nothing w))
    (wait_same side waits.Nothing w)
    (waiting_starts_out side t (waiting_on side w) (wait side waits.Nothing w))

choice_out : (b : Bool) (f g w : PortStep) → Outcome w f → Outcome w g → Outcome w (if b then f else g)
choice_out true f g w p q = p
choice_out false f g w p q = q

line_starts_out : (t : ℕ) (w : PortStep) → Outcome w (line_starts t w)
unfolding line_starts
line_starts_out t w =
    let plugs : PortStep = if is_waiting w.port.plug_waits then side_starts Plug t w else w in
    let sinks : PortStep = if is_waiting w.port.sink_waits then side_starts Sink t w else plugs in
    let sources : PortStep = if is_waiting w.port.source_waits then side_starts Source t w else sinks in
    choice_out (is_idle w.port.line) sources w w
    (choice_out (is_waiting w.port.source_waits) (side_starts Source t w) sinks w (side_starts_out Source t w)
    (choice_out (is_waiting w.port.sink_waits) (side_starts Sink t w) plugs w (side_starts_out Sink t w)
    (choice_out (is_waiting w.port.plug_waits) (side_starts Plug t w) w w (side_starts_out Plug t w) (inl refl)))) (inl refl)

-- where nothing has started, what starts now takes its disturbance
pub starts_took : (t : ℕ) (w : PortStep) → w.start ≡ None → Took (view w) (view (line_starts t w))
starts_took t w none = out_took w (line_starts t w) none (line_starts_out t w)

-- where the line is busy, nothing starts
busy_stays : (t : ℕ) (w : PortStep) → is_idle w.port.line ≡ false → line_starts t w ≡ w
unfolding line_starts
busy_stays t w e = rw e refl

-- so a step takes one disturbance at most
pub step_took : (t : ℕ) (w w' : PortStep) → w.start ≡ None → Outcome w w' → Took (view w) (view (line_starts t w'))
step_took t w w' none h =
    elim h as (λ x. Took (view w) (view (line_starts t w'))) [
      | inl same ↦ took_on (view w') (view w) _ same (starts_took t w' (ap (λ (x : View). x.start) same ∙ none))
      | inr took ↦ subst (λ (z : PortStep). Took (view w) (view z)) (sym (busy_stays t w' took.1)) took.0
    ]
