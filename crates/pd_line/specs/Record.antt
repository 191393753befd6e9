-- All that a port keeps from step to step, and how it is at the start.
use Rattle.std.specs.Prelude.{List, [], Option, None}
use Rattle.pd_symbols.specs.declared.channel.Channel.TheVariants.{Sop, SopPrime}
use Rattle.pd_header.specs.declared.side.Side.TheVariants.{Source, Sink, Plug}
use Rattle.pd_identity.specs.declared.Cable.{Cable}
use Rattle.pd_protocol.specs.LayerRecord.{LayerRecord}
use Rattle.pd_protocol.specs.Layer.{fresh}
use Rattle.pd_source.specs.Record.{SourceRecord, SourceSettings}
use Rattle.pd_source.specs.Record as source
use Rattle.pd_sink.specs.Record.{SinkRecord}
use Rattle.pd_sink.specs.Record as sink
use Rattle.pd_plug.specs.Record.{PlugRecord}
use Rattle.pd_plug.specs.Record as plug
use Rattle.pd_line.specs.declared.port_parts.PortParts.{PortParts}
use Rattle.pd_line.specs.declared.disturbances.Disturbance.{Disturbance}
use Rattle.pd_line.specs.declared.port_parts.Line.{Line}
use Rattle.pd_line.specs.declared.port_parts.Line.TheVariants.{Idle}
use Rattle.pd_line.specs.declared.port_parts.Waiting.{Waiting}
use Rattle.pd_line.specs.declared.port_parts.Waiting.TheVariants.{Nothing}

-- the attached cable, the engines, the layers, what waits on each side, the line, and the disturbances that wait for
-- packets. What the port is set to is no part of it.
pub record PortRecord : Type 0 where
  pub cable : Option Cable
  pub source : SourceRecord
  pub sink : SinkRecord
  pub plug : PlugRecord
  pub source_sop : LayerRecord
  pub sink_sop : LayerRecord
  pub source_sop_prime : LayerRecord
  pub plug_sop_prime : LayerRecord
  pub source_waits : Waiting
  pub sink_waits : Waiting
  pub plug_waits : Waiting
  pub line : Line
  pub disturbances : List Disturbance

-- the record without what its source is set to
abbrev pub without_settings : PortParts → PortRecord
without_settings r =
    record {
      cable = r.cable;
      source = r.source.record;
      sink = r.sink;
      plug = r.plug;
      source_sop = r.source_sop;
      sink_sop = r.sink_sop;
      source_sop_prime = r.source_sop_prime;
      plug_sop_prime = r.plug_sop_prime;
      source_waits = r.source_waits;
      sink_waits = r.sink_waits;
      plug_waits = r.plug_waits;
      line = r.line;
      disturbances = r.disturbances;
    }

-- and with it again
abbrev pub with_settings : SourceSettings → PortRecord → PortParts
with_settings settings r =
    record {
      cable = r.cable;
      source = record { settings = settings; «record» = r.source };
      sink = r.sink;
      plug = r.plug;
      source_sop = r.source_sop;
      sink_sop = r.sink_sop;
      source_sop_prime = r.source_sop_prime;
      plug_sop_prime = r.plug_sop_prime;
      source_waits = r.source_waits;
      sink_waits = r.sink_waits;
      plug_waits = r.plug_waits;
      line = r.line;
      disturbances = r.disturbances;
    }

-- nothing is attached: the engines are off, the layers reset, and the line is idle
unfoldable pub nothing_attached : SourceSettings → PortRecord
nothing_attached settings =
    record {
      cable = None;
      source = source.off settings;
      sink = sink.off;
      plug = plug.off;
      source_sop = fresh Source Sop;
      sink_sop = fresh Sink Sop;
      source_sop_prime = fresh Source SopPrime;
      plug_sop_prime = fresh Plug SopPrime;
      source_waits = Nothing;
      sink_waits = Nothing;
      plug_waits = Nothing;
      line = Idle;
      disturbances = [];
    }
