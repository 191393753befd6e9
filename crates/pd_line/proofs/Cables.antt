-- What reaches the source tells it of the attached cable alone: each rule of the line keeps this.
use Rattle.std.proofs.Common.{◌≡◌, ◌⊎◌, inl, inr, ℕ, ◌==◌, ◌%◌, ◌^◌, ◌<◌, Bool, true, false, if◌then◌else◌, Option, Some, None}
use Rattle.std.proofs.Common.{refl, sym, subst, ◌∙◌, ap, List, [], ◌∷◌, arith, lit<}
use Rattle.std.specs.List.{AllByRecursion}
use Rattle.pd_symbols.specs.declared.channel.Channel.{Channel}
use Rattle.pd_header.specs.declared.side.Side.{Side}
use Rattle.pd_header.specs.declared.side.Side.TheVariants.{Source, Sink, Plug}
use Rattle.pd_header.specs.Header.{type_of}
use Rattle.pd_header.specs.declared.kind.Kind.{Kind}
use Rattle.pd_header.specs.declared.kind.Kind.TheVariants as kind
use Rattle.pd_identity.specs.Identity.{header_of, req}
use Rattle.pd_identity.specs.declared.Cable.{Cable}
use Rattle.pd_identity.proofs.Answers.{answer_fits}
use Rattle.pd_packet.specs.Contents.{Contents}
use Rattle.pd_packet.specs.Hearing.{heard}
use Rattle.pd_packet.specs.declared.fate.Fate.{Fate}
use Rattle.pd_packet.proofs.Alike.{heard_alike, type_alike, objects_alike}
use Rattle.pd_protocol.specs.Messages.{MessageData, packet_of}
use Rattle.pd_protocol.specs.LayerRecord.{OutstandingData}
use Rattle.pd_protocol.proofs.Resent.{IsOfSent, packet_type, packet_objects}
use Rattle.pd_sink.specs.declared.kinds.Sending.{Sending as SinkSending}
use Rattle.pd_sink.specs.declared.kinds.Sending.TheVariants as sink_sending
use Rattle.pd_plug.specs.Record.{PlugRecord}
use Rattle.pd_plug.specs.Acts.{identity_of}
use Rattle.pd_plug.specs.Step as plug
use Rattle.pd_plug.specs.declared.kinds.Stimulus.{Stimulus as PlugStimulus}
use Rattle.pd_plug.specs.declared.kinds.Stimulus.TheVariants as plug_told
use Rattle.pd_line.specs.declared.port_parts.Line.{Line}
use Rattle.pd_line.specs.declared.port_parts.Line.TheVariants.{Idle, Message, Pause, GoodCrc, NoAnswer, HardReset}
use Rattle.pd_line.specs.declared.port_parts.Waiting.{Waiting}
use Rattle.pd_line.specs.declared.port_parts.Waiting.TheVariants as waits
use Rattle.pd_line.specs.declared.port_step.PortStep.{PortStep}
use Rattle.pd_line.specs.Record.{without_settings}
use Rattle.pd_line.specs.Cables.{Tells, TellsOn, WaitsToTell, MayTellAgain, LineTells, wire, TellsOfCable}
use Rattle.pd_line.specs.Told.{plug_hears_as, sink_message, plug_message}

-- a cable known to the plug's engine before a row
abbrev pub KnownBefore : Option Cable → PlugStimulus → PlugRecord → Type 0
KnownBefore cable x r = ((plug.before_row x r).cable ≡ None) ⊎ ((plug.before_row x r).cable ≡ cable)

-- what the plug is told, but for the attach, leaves the cable that it knows
abbrev pub KeepsCable : PlugStimulus → PlugRecord → Type 0
KeepsCable x r = (plug.before_row x r).cable ≡ r.cable

either_keeps : (b : Bool) (r : PlugRecord) → KeepsCable (if b then plug_told.DiscoverIdentity else plug_told.Other) r
either_keeps true r = refl
either_keeps false r = refl

pub hears_keeps : (k : Kind) (objects : List ℕ) (r : PlugRecord) → KeepsCable (plug_hears_as k objects) r
hears_keeps kind.VendorDefined [] r = refl
hears_keeps kind.VendorDefined (o ∷ objects) r = either_keeps (o == header_of req) r
hears_keeps k objects r = refl

-- what a cable answers are words of 32 bits
identity_fits : (cable : Option Cable) → AllByRecursion (λ w. w < 2 ^ 32) (identity_of cable)
identity_fits None = tt
identity_fits (Some c) = answer_fits c

told_fits : (cable : Option Cable) (objects : List ℕ) → (objects ≡ []) ⊎ (objects ≡ identity_of cable) →
    AllByRecursion (λ w. w < 2 ^ 32) objects
told_fits cable objects (inl e) = subst (AllByRecursion (λ w. w < 2 ^ 32)) (sym e) tt
told_fits cable objects (inr e) = subst (AllByRecursion (λ w. w < 2 ^ 32)) (sym e) (identity_fits cable)

-- what is heard tells no more than what was sent
heard_tells : (cable : Option Cable) (p q : Contents) (fate : Fate) → heard p fate ≡ Some q →
    Tells cable (type_of p.header) p.objects → Tells cable (type_of q.header) q.objects
heard_tells cable p q fate e h is_15 =
    let s = heard_alike p q fate e in
    let k = h (sym (type_alike p q s) ∙ is_15) in
    let same : p.objects ≡ q.objects = sym (objects_alike p q s (told_fits cable p.objects k)) in
    subst (λ (objects : List ℕ). (objects ≡ []) ⊎ (objects ≡ identity_of cable)) same k

pub heard_on : (cable : Option Cable) (side : Side) (p q : Contents) (fate : Fate) → heard p fate ≡ Some q →
    TellsOn cable side p → TellsOn cable side q
heard_on cable Source p q fate e h = tt
heard_on cable Sink p q fate e h = heard_tells cable p q fate e h
heard_on cable Plug p q fate e h = heard_tells cable p q fate e h

-- what tells of no cable tells of none that is attached
none_tells : (cable : Option Cable) (kind : ℕ) (objects : List ℕ) → Tells None kind objects → Tells cable kind objects
none_tells cable kind objects h e = elim (h e) [ inl k ↦ inl k | inr k ↦ inl k ]

none_on : (cable : Option Cable) (side : Side) (p : Contents) → TellsOn None side p → TellsOn cable side p
none_on cable Source p h = tt
none_on cable Sink p h = none_tells cable (type_of p.header) p.objects h
none_on cable Plug p h = none_tells cable (type_of p.header) p.objects h

pub none_waits : (cable : Option Cable) (x : Waiting) → WaitsToTell None x → WaitsToTell cable x
none_waits cable waits.Nothing h = tt
none_waits cable (waits.Message m) h = none_tells cable (m.kind % 2 ^ 5) m.objects h
none_waits cable waits.HardReset h = tt

pub none_again : (cable : Option Cable) (side : Side) (o : Option OutstandingData) → MayTellAgain None side o → MayTellAgain cable side o
none_again cable side None h = tt
none_again cable side (Some o) h = none_on cable side o.packet h

pub none_line : (cable : Option Cable) (line : Line) → LineTells None line → LineTells cable line
none_line cable Idle h = tt
none_line cable (Message side p fate end) h = none_on cable side p h
none_line cable (Pause side p end) h = none_on cable side p h
none_line cable (GoodCrc side p a fate end) h = none_on cable side p h
none_line cable (NoAnswer side p end) h = none_on cable side p h
none_line cable (HardReset side end) h = tt

-- a number that is less than another isn't equal to it
apart : {A : Type 0} (m n : ℕ) → m ≡ n → m < n → A
apart m n e l = absurd (omega arith)

-- no message of the sink's is of the type of Vendor_Defined
pub sink_tells : (cable : Option Cable) (s : SinkSending) → WaitsToTell cable (waits.Message (sink_message s))
sink_tells cable (sink_sending.Request object) e = apart _ _ e (lit< tt)
sink_tells cable sink_sending.GetSourceCap e = apart _ _ e (lit< tt)
sink_tells cable (sink_sending.SinkCapabilities objects) e = apart _ _ e (lit< tt)
sink_tells cable sink_sending.Accept e = apart _ _ e (lit< tt)
sink_tells cable sink_sending.SoftReset e = apart _ _ e (lit< tt)

-- the plug's message has what the cable answers that it knows
pub plug_tells : (cable known : Option Cable) (objects : List ℕ) → (known ≡ None) ⊎ (known ≡ cable) →
    objects ≡ identity_of known → WaitsToTell cable (waits.Message (plug_message objects))
plug_tells cable known objects (inl k) e is_15 = inl (e ∙ ap identity_of k)
plug_tells cable known objects (inr k) e is_15 = inr (e ∙ ap identity_of k)

-- the packet of a message tells what the message does
packet_as : (cable : Option Cable) (from : Side) (channel : Channel) (revision id : ℕ) (m : MessageData) →
    WaitsToTell cable (waits.Message m) → TellsOn cable Plug (packet_of from channel revision id m)
packet_as cable from channel revision id m h e =
    subst (λ (objects : List ℕ). (objects ≡ []) ⊎ (objects ≡ identity_of cable)) (sym (packet_objects from channel revision id m))
    (h (sym (packet_type from channel revision id m) ∙ e))

pub packet_tells : (cable : Option Cable) (side from : Side) (channel : Channel) (revision id : ℕ) (m : MessageData) →
    WaitsToTell cable (waits.Message m) → TellsOn cable side (packet_of from channel revision id m)
packet_tells cable Source from channel revision id m h = tt
packet_tells cable Sink from channel revision id m h = packet_as cable from channel revision id m h
packet_tells cable Plug from channel revision id m h = packet_as cable from channel revision id m h

pub sent_by : (cable : Option Cable) (side : Side) (o : Option OutstandingData) → MayTellAgain cable side o →
    IsOfSent (TellsOn cable side) o
sent_by cable side None h = tt
sent_by cable side (Some o) h = h

pub by_sent : (cable : Option Cable) (side : Side) (o : Option OutstandingData) → IsOfSent (TellsOn cable side) o →
    MayTellAgain cable side o
by_sent cable side None h = tt
by_sent cable side (Some o) h = h

-- the source's own packets reach others
pub source_sent : (cable : Option Cable) (o : Option OutstandingData) → IsOfSent (TellsOn cable Source) o
source_sent cable None = tt
source_sent cable (Some o) = tt

-- so it is on the port of a step under way
abbrev pub On : Option Cable → PortStep → Type 0
On cable w = TellsOfCable cable (wire (without_settings w.port))
