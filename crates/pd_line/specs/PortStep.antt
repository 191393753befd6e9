-- A step of a port under way, and what it does to the port, part by part: what waits, the layers, and the engines with
-- their acts. `w` is the step under way, `t` its time in microseconds. The rules of the line, in Lines.antt, are made of these
-- parts.
use Rattle.std.specs.Prelude.{ℕ, List, [], ◌∷◌, ◌++◌, Some, None, Result}
use Rattle.pd_symbols.specs.declared.channel.Channel.{Channel}
use Rattle.pd_symbols.specs.declared.channel.Channel.TheVariants.{Sop, SopPrime}
use Rattle.pd_header.specs.declared.side.Side.{Side}
use Rattle.pd_header.specs.declared.side.Side.TheVariants.{Source, Sink, Plug}
use Rattle.pd_header.specs.Kinds.{kind_of_header}
use Rattle.pd_packet.specs.Contents.{Contents}
use Rattle.pd_timers.specs.declared.Timer.{Timer}
use Rattle.pd_identity.specs.declared.Cable.{Cable}
use Rattle.pd_protocol.specs.Messages.{MessageData}
use Rattle.pd_protocol.specs.LayerRecord.{LayerRecord}
use Rattle.pd_protocol.specs.Layer as layer
use Rattle.pd_protocol.specs.declared.layer.LayerAct.{LayerAct}
use Rattle.pd_source.specs.Step as source
use Rattle.pd_source.specs.declared.kinds.Act.TheVariants as source_act_is
use Rattle.pd_source.specs.declared.kinds.Act.{Act as SourceAct}
use Rattle.pd_source.specs.declared.kinds.Stimulus.{Stimulus as SourceStimulus}
use Rattle.pd_source.specs.declared.kinds.Stimulus.TheVariants as source_told
use Rattle.pd_source.specs.declared.kinds.Sent.{Sent}
use Rattle.pd_setup.specs.Sinks.{SinkData}
use Rattle.pd_sink.specs.Step as sink
use Rattle.pd_sink.specs.declared.kinds.Act.TheVariants as sink_act_is
use Rattle.pd_sink.specs.declared.kinds.Act.{Act as SinkAct}
use Rattle.pd_sink.specs.declared.kinds.Stimulus.{Stimulus as SinkStimulus}
use Rattle.pd_sink.specs.declared.kinds.Stimulus.TheVariants as sink_told
use Rattle.pd_plug.specs.Step as plug
use Rattle.pd_plug.specs.declared.kinds.Act.TheVariants as plug_act_is
use Rattle.pd_plug.specs.declared.kinds.Act.{Act as PlugAct}
use Rattle.pd_plug.specs.declared.kinds.Stimulus.{Stimulus as PlugStimulus}
use Rattle.pd_plug.specs.declared.kinds.Stimulus.TheVariants as plug_told
use Rattle.pd_line.specs.declared.notes.Fault.{Fault}
use Rattle.pd_line.specs.declared.port_parts.PortParts.{PortParts}
use Rattle.pd_line.specs.declared.port_parts.Waiting.{Waiting}
use Rattle.pd_line.specs.declared.port_parts.Waiting.TheVariants.{Nothing, Message, HardReset}
use Rattle.pd_line.specs.declared.port_step.PortStep.{PortStep}
use Rattle.pd_line.specs.Told.{source_hears_as, sink_hears_as, plug_hears_as, source_message, sink_message, plug_message}
use Rattle.pd_line.specs.Told.{source_fault, sink_fault}

-- ## A step under way

-- the port is this
abbrev pub with_port : PortParts → PortStep → PortStep
with_port p w = record w { port = p }

-- a port on which no step is under way
abbrev pub at_rest : PortParts → PortStep
at_rest p = record { port = p; answer = None; faults = record { items = [] }; start = None }

-- a fault is noted behind those so far
unfoldable pub noted : Fault → PortStep → PortStep
noted fault w = record w { faults = record { items = w.faults.items ++ fault ∷ [] } }

-- ## What waits

-- what waits on a side is this: a later message or Hard Reset takes the place of the one before
unfoldable pub wait : Side → Waiting → PortStep → PortStep
wait Source waiting w = with_port (record w.port { source_waits = waiting }) w
wait Sink waiting w = with_port (record w.port { sink_waits = waiting }) w
wait Plug waiting w = with_port (record w.port { plug_waits = waiting }) w

-- ## The layers, by the rows L1 to L5 of docs/TABLES.md (pd_protocol's Layer.antt)

-- which layer is a side's on a channel: source and sink have one each on SOP, source and plug one each on SOP'
abbrev pub layer_on : Side → Channel → PortStep → LayerRecord
layer_on Source Sop w = w.port.source_sop
layer_on Source SopPrime w = w.port.source_sop_prime
layer_on Sink channel w = w.port.sink_sop
layer_on Plug channel w = w.port.plug_sop_prime

-- that layer is this
abbrev pub with_layer : Side → Channel → LayerRecord → PortStep → PortStep
with_layer Source Sop l w = with_port (record w.port { source_sop = l }) w
with_layer Source SopPrime l w = with_port (record w.port { source_sop_prime = l }) w
with_layer Sink channel l w = with_port (record w.port { sink_sop = l }) w
with_layer Plug channel l w = with_port (record w.port { plug_sop_prime = l }) w

-- a call of that layer: the step with the layer after it, and the layer's answer
abbrev pub on_layer : {A : Type 0} → Side → Channel → (LayerRecord → LayerRecord × A) → PortStep → PortStep × A
on_layer side channel call w =
    let r = call (layer_on side channel w) in (with_layer side channel r.0 w, r.1)

-- L2: a message is submitted
unfoldable pub submit_on : Side → Channel → MessageData → ℕ → PortStep → PortStep × Result Contents MessageData
submit_on side channel message revision = on_layer side channel (λ l. layer.submit l revision message)

-- L3: a GoodCRC with this MessageID comes
unfoldable pub good_crc_on : Side → Channel → ℕ → PortStep → PortStep × LayerAct
good_crc_on side channel id = on_layer side channel (λ l. layer.good_crc l id)

-- L4: no GoodCRC has come in time
unfoldable pub timed_out_on : Side → Channel → PortStep → PortStep × LayerAct
timed_out_on side channel = on_layer side channel layer.timed_out

-- L5: a message with this header comes
unfoldable pub received_on : Side → Channel → ℕ → PortStep → PortStep × LayerAct
received_on side channel header = on_layer side channel (λ l. layer.received l header)

-- L1: the layer is reset
unfoldable pub reset_on : Side → Channel → PortStep → PortStep
reset_on side channel w = with_layer side channel (layer.reset (layer_on side channel w)) w

-- ## The engines: a step of each, and its acts in order

-- an act of the sink
abbrev pub sink_act : SinkAct → PortStep → PortStep
sink_act sink_act_is.DropWaiting w = wait Sink Nothing w
sink_act sink_act_is.ResetLayer w = reset_on Sink Sop w
sink_act (sink_act_is.Note note) w = noted (sink_fault note) w
sink_act (sink_act_is.Send sending) w = wait Sink (Message (sink_message sending)) w
sink_act sink_act_is.SendHardReset w = wait Sink HardReset w

-- the acts of the sink, in order
abbrev pub sink_acts : List SinkAct → PortStep → PortStep
sink_acts [] w = w
sink_acts (a ∷ rest) w = sink_acts rest (sink_act a w)

-- the sink's engine is stepped
unfoldable pub sink_steps : ℕ → SinkStimulus → PortStep → PortStep
sink_steps t x w =
    sink_acts (sink.acts_of t x w.port.sink) (with_port (record w.port { sink = sink.stepped t x w.port.sink }) w)

-- an act of the plug
abbrev pub plug_act : PlugAct → PortStep → PortStep
plug_act plug_act_is.DropWaiting w = wait Plug Nothing w
plug_act (plug_act_is.SendIdentity objects) w = wait Plug (Message (plug_message objects.items)) w

-- the acts of the plug, in order
abbrev pub plug_acts : List PlugAct → PortStep → PortStep
plug_acts [] w = w
plug_acts (a ∷ rest) w = plug_acts rest (plug_act a w)

-- the plug's engine is stepped
unfoldable pub plug_steps : ℕ → PlugStimulus → PortStep → PortStep
plug_steps t x w =
    plug_acts (plug.acts_of t x w.port.plug) (with_port (record w.port { plug = plug.stepped t x w.port.plug }) w)

-- N6, an act of the source: where it turns the power on, the sink is stepped at once; where it turns it off, nobody is
abbrev pub source_act : ℕ → SourceAct → PortStep → PortStep
source_act t source_act_is.DropWaiting w = wait Source Nothing w
source_act t source_act_is.On w = sink_steps t sink_told.Vbus w
source_act t source_act_is.Off w = w
source_act t source_act_is.ResetLayer w = reset_on Source Sop w
source_act t (source_act_is.Note note) w = noted (source_fault note) w
source_act t (source_act_is.Send sending) w = wait Source (Message (source_message sending)) w
source_act t source_act_is.SendHardReset w = wait Source HardReset w

-- the acts of the source, in order
abbrev pub source_acts : ℕ → List SourceAct → PortStep → PortStep
source_acts t [] w = w
source_acts t (a ∷ rest) w = source_acts t rest (source_act t a w)

-- the source after it was stepped
abbrev pub source_after : ℕ → SourceStimulus → PortStep → PortStep
source_after t x w =
    let s = w.port.source in
    record w {
      port = record w.port { source = record s { «record» = source.stepped s.settings t x w.answer s.record } };
      answer = None;
    }

-- the source's engine is stepped, and the answer is used up
unfoldable pub source_steps : ℕ → SourceStimulus → PortStep → PortStep
source_steps t x w =
    source_acts t (source.acts_of w.port.source.settings t x w.answer w.port.source.record) (source_after t x w)

-- ## What a side's engine is told

-- what a side has sent has reached its receiver: a message of this kind, or a Hard Reset
unfoldable pub tells_sent : Side → Sent → ℕ → PortStep → PortStep
tells_sent Source m t = source_steps t (source_told.Sent m)
tells_sent Sink m t = sink_steps t sink_told.Sent
tells_sent Plug m t = plug_steps t plug_told.Sent

-- a side's message was sent as often as it may be, and nobody has answered
unfoldable pub tells_failed : Side → ℕ → PortStep → PortStep
tells_failed Source t = source_steps t source_told.Failed
tells_failed Sink t = sink_steps t sink_told.Failed
tells_failed Plug t = plug_steps t plug_told.Failed

-- a side gets a message
unfoldable pub tells_message : Side → Contents → ℕ → PortStep → PortStep
tells_message Source p t = source_steps t (source_hears_as (kind_of_header p.header) p.header p.objects)
tells_message Sink p t = sink_steps t (sink_hears_as (kind_of_header p.header) p.objects)
tells_message Plug p t = plug_steps t (plug_hears_as (kind_of_header p.header) p.objects)

-- a side gets a Hard Reset
unfoldable pub tells_reset : Side → ℕ → PortStep → PortStep
tells_reset Source t = source_steps t source_told.HardReset
tells_reset Sink t = sink_steps t sink_told.HardReset
tells_reset Plug t = plug_steps t plug_told.HardReset

-- a side's timer has ended
unfoldable pub tells_timer : Side → Timer → ℕ → PortStep → PortStep
tells_timer Source timer t = source_steps t (source_told.Ended timer)
tells_timer Sink timer t = sink_steps t (sink_told.Ended timer)
tells_timer Plug timer t = plug_steps t (plug_told.Ended timer)

-- a cable and a sink are attached: source, sink and plug are stepped, in this order
unfoldable pub tells_attach : Cable → SinkData → ℕ → PortStep → PortStep
tells_attach cable device t w =
    plug_steps t (plug_told.Attach cable)
    (sink_steps t (sink_told.Attach device)
    (source_steps t source_told.Attach (with_port (record w.port { cable = Some cable }) w)))
