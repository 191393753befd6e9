-- With what the source's engine is stepped for what falls due.
use Rattle.std.specs.Prelude.{false, if◌then◌else◌, is_some, Option, Some, None}
use Rattle.pd_symbols.specs.declared.channel.Channel.{Channel}
use Rattle.pd_symbols.specs.declared.channel.Channel.TheVariants.{Sop, SopPrime}
use Rattle.pd_header.specs.declared.side.Side.{Side}
use Rattle.pd_header.specs.declared.side.Side.TheVariants.{Source}
use Rattle.pd_header.specs.Header.{id_of}
use Rattle.pd_header.specs.Kinds.{kind_of_header}
use Rattle.pd_objects.specs.declared.query.Answer.{Answer}
use Rattle.pd_objects.specs.declared.query.Answer.TheVariants as answers
use Rattle.pd_packet.specs.Contents.{Contents}
use Rattle.pd_packet.specs.Hearing.{heard}
use Rattle.pd_packet.specs.declared.fate.Fate.{Fate}
use Rattle.pd_protocol.specs.LayerRecord.{LayerRecord}
use Rattle.pd_protocol.specs.Layer as layer
use Rattle.pd_protocol.specs.declared.layer.LayerAct.{LayerAct}
use Rattle.pd_protocol.specs.declared.layer.LayerAct.TheVariants as answer
use Rattle.pd_source.specs.Step as source
use Rattle.pd_source.specs.declared.kinds.Sent.TheVariants as sent
use Rattle.pd_source.specs.declared.kinds.Stimulus.{Stimulus}
use Rattle.pd_source.specs.declared.kinds.Stimulus.TheVariants as told
use Rattle.pd_setup.specs.Events.{PortEventKind}
use Rattle.pd_setup.specs.declared.event.EventKind.TheVariants.{Attach, GetSink}
use Rattle.pd_setup.specs.declared.event.Happening.{Happening}
use Rattle.pd_setup.specs.declared.event.Happening.TheVariants.{Port, Budget}
use Rattle.pd_line.specs.Told.{sent_as, source_hears_as}
use Rattle.pd_line.specs.declared.port_parts.PortParts.{PortParts}
use Rattle.pd_line.specs.declared.port_parts.Line.{Line}
use Rattle.pd_line.specs.declared.port_parts.Line.TheVariants.{GoodCrc, NoAnswer, HardReset}
use Rattle.pd_port.specs.declared.due.What.{What}
use Rattle.pd_port.specs.declared.due.What.TheVariants as what

-- the source's layer on a channel
abbrev pub source_layer : Channel → PortParts → LayerRecord
source_layer Sop r = r.source_sop
source_layer SopPrime r = r.source_sop_prime

abbrev pub told_if_sent : Contents → LayerAct → Option Stimulus
told_if_sent p answer.Sent = Some (told.Sent (sent_as (kind_of_header p.header)))
told_if_sent p act = None

abbrev pub told_if_up : Contents → LayerAct → Option Stimulus
told_if_up p answer.Up = Some (source_hears_as (kind_of_header p.header) p.header p.objects)
told_if_up p act = None

abbrev pub told_if_failed : LayerAct → Option Stimulus
told_if_failed answer.Failed = Some told.Failed
told_if_failed act = None

abbrev pub told_of_good_crc : Contents → PortParts → Option Contents → Option Stimulus
told_of_good_crc p r None = None
told_of_good_crc p r (Some a) = told_if_sent p (layer.good_crc (source_layer p.channel r) (id_of a.header)).1

abbrev pub told_at_good_crc : Side → Contents → Contents → Fate → PortParts → Option Stimulus
told_at_good_crc Source p a fate r = told_of_good_crc p r (heard a fate)
told_at_good_crc side p a fate r = told_if_up p (layer.received (source_layer p.channel r) p.header).1

abbrev pub told_at_time_out : Side → Contents → PortParts → Option Stimulus
told_at_time_out Source p r = told_if_failed (layer.timed_out (source_layer p.channel r)).1
told_at_time_out side p r = None

-- a Hard Reset has ended, the source's own or another side's
abbrev pub told_of_reset : Side → PortParts → Option Stimulus
told_of_reset Source r = Some (told.Sent sent.Other)
told_of_reset side r = if source.hears_in r.source.record then Some told.HardReset else None

abbrev pub told_by_line : Line → PortParts → Option Stimulus
told_by_line (GoodCrc side p a fate end) r = told_at_good_crc side p a fate r
told_by_line (NoAnswer side p end) r = told_at_time_out side p r
told_by_line (HardReset side end) r = told_of_reset side r
told_by_line line r = None

-- an event while a sink is attached
abbrev pub told_attached : PortEventKind → PortParts → Option Stimulus
told_attached GetSink r = if source.is_ready r.source.record then Some told.GetSink else None
told_attached kind r = None

-- an event while nothing is attached
abbrev pub told_detached : PortEventKind → Option Stimulus
told_detached (Attach cable device) = Some told.Attach
told_detached kind = None

abbrev pub told_by_event : Happening → PortParts → Option Stimulus
told_by_event (Port id kind) r = if is_some r.cable then told_attached kind r else told_detached kind
told_by_event Budget r = None

-- with what the source's engine is stepped for this due, where it is no change of the budget
abbrev pub source_told : What → PortParts → Option Stimulus
source_told (what.Event e) r = told_by_event e.happening r
source_told what.Line r = told_by_line r.line r
source_told (what.Timer Source timer) r = Some (told.Ended timer)
source_told (what.Timer side timer) r = None

-- with what it is stepped for a change of the budget, by the answer whether the hold may stay
abbrev pub told_if_shed : Option Answer → Option Stimulus
told_if_shed (Some (answers.Fits false)) = Some told.Shed
told_if_shed a = None
