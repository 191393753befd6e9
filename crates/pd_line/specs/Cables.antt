-- What on a port tells the source of its cable: Vendor_Defined messages, which the plug alone sends, and with the objects that
-- the attached cable answers.
use Rattle.std.specs.Prelude.{◌≡◌, ◌⊎◌, ℕ, ◌%◌, ◌^◌, List, [], Option, Some, None}
use Rattle.pd_header.specs.Header.{type_of}
use Rattle.pd_header.specs.Kinds.{number_of}
use Rattle.pd_header.specs.declared.kind.Kind.TheVariants.{VendorDefined}
use Rattle.pd_header.specs.declared.side.Side.{Side}
use Rattle.pd_header.specs.declared.side.Side.TheVariants.{Source, Sink, Plug}
use Rattle.pd_identity.specs.declared.Cable.{Cable}
use Rattle.pd_packet.specs.Contents.{Contents}
use Rattle.pd_protocol.specs.LayerRecord.{OutstandingData}
pub use Rattle.pd_plug.specs.Acts.{identity_of}
use Rattle.pd_line.specs.declared.port_parts.Line.{Line}
use Rattle.pd_line.specs.declared.port_parts.Line.TheVariants.{Idle, Message, Pause, GoodCrc, NoAnswer, HardReset}
use Rattle.pd_line.specs.declared.port_parts.Waiting.{Waiting}
use Rattle.pd_line.specs.declared.port_parts.Waiting.TheVariants as waits
use Rattle.pd_line.specs.Record.{PortRecord}

-- what is of the type of Vendor_Defined has the objects that the cable answers, or none
abbrev pub Tells : Option Cable → ℕ → List ℕ → Type 0
Tells cable number objects = number ≡ number_of VendorDefined → (objects ≡ []) ⊎ (objects ≡ identity_of cable)

-- a packet by which a side may tell the source: the source's own packets don't reach it
abbrev pub TellsOn : Option Cable → Side → Contents → Type 0
TellsOn cable Source p = Unit {0}
TellsOn cable Sink p = Tells cable (type_of p.header) p.objects
TellsOn cable Plug p = Tells cable (type_of p.header) p.objects

-- a message that waits; a header has five bits for the type
abbrev pub WaitsToTell : Option Cable → Waiting → Type 0
WaitsToTell cable waits.Nothing = Unit {0}
WaitsToTell cable (waits.Message m) = Tells cable (m.kind % 2 ^ 5) m.objects
WaitsToTell cable waits.HardReset = Unit {0}

-- what a side's layer may send again
abbrev pub MayTellAgain : Option Cable → Side → Option OutstandingData → Type 0
MayTellAgain cable side None = Unit {0}
MayTellAgain cable side (Some o) = TellsOn cable side o.packet

-- what is on the line
abbrev pub LineTells : Option Cable → Line → Type 0
LineTells cable Idle = Unit {0}
LineTells cable (Message side p fate end) = TellsOn cable side p
LineTells cable (Pause side p end) = TellsOn cable side p
LineTells cable (GoodCrc side p a fate end) = TellsOn cable side p
LineTells cable (NoAnswer side p end) = TellsOn cable side p
LineTells cable (HardReset side end) = Unit {0}

-- The parts of a port by which the source may come to be told of a cable: the attached cable, the one that the plug's engine
-- knows, what waits on plug and sink, what their layers may send again, and the line.
pub record Wire : Type 0 where
  pub attached : Option Cable
  pub known : Option Cable
  pub plug_waits : Waiting
  pub sink_waits : Waiting
  pub plug_sent : Option OutstandingData
  pub sink_sent : Option OutstandingData
  pub line : Line

abbrev pub wire : PortRecord → Wire
wire r =
    record {
      attached = r.cable;
      known = r.plug.cable;
      plug_waits = r.plug_waits;
      sink_waits = r.sink_waits;
      plug_sent = r.plug_sop_prime.outstanding;
      sink_sent = r.sink_sop.outstanding;
      line = r.line;
    }

-- this cable is attached, the plug's engine knows no other, and whatever may reach the source tells it of no other
pub record TellsOfCable (cable : Option Cable) (w : Wire) : Type 0 where
  pub attached : w.attached ≡ cable
  pub known : (w.known ≡ None) ⊎ (w.known ≡ cable)
  pub plug_waits : WaitsToTell cable w.plug_waits
  pub sink_waits : WaitsToTell cable w.sink_waits
  pub plug_sent : MayTellAgain cable Plug w.plug_sent
  pub sink_sent : MayTellAgain cable Sink w.sink_sent
  pub line : LineTells cable w.line
