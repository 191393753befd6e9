-- What messages are to the engines, and what the engines send and note. The table of the messages in pd_header,
-- specs/Kinds.antt, has each one's number, name and senders; this file goes on with what a message becomes where it is heard,
-- and with the message that each sending of an engine is.
use Rattle.std.specs.Prelude.{ℕ, ◌==◌, if◌then◌else◌, List, [], ◌∷◌, Contains}
use Rattle.pd_header.specs.Header.{revision_of}
use Rattle.pd_header.specs.declared.kind.Kind.{Kind}
use Rattle.pd_header.specs.declared.kind.Kind.TheVariants as kind
use Rattle.pd_header.specs.declared.side.Side.{Side}
use Rattle.pd_header.specs.declared.side.Side.TheVariants.{Source, Sink, Plug}
use Rattle.pd_header.specs.Kinds.{message_row}
use Rattle.pd_identity.specs.Identity.{header_of, req}
use Rattle.pd_protocol.specs.Messages.{MessageData, message_of}
use Rattle.pd_source.specs.declared.kinds.Note.{Note as SourceNote}
use Rattle.pd_source.specs.declared.kinds.Note.TheVariants as source_note
use Rattle.pd_source.specs.declared.kinds.Sending.{Sending as SourceSending}
use Rattle.pd_source.specs.declared.kinds.Sending.TheVariants as source_sending
use Rattle.pd_source.specs.declared.kinds.Sent.{Sent}
use Rattle.pd_source.specs.declared.kinds.Sent.TheVariants as sent
use Rattle.pd_source.specs.declared.kinds.Stimulus.{Stimulus as SourceStimulus}
use Rattle.pd_source.specs.declared.kinds.Stimulus.TheVariants as source_told
use Rattle.pd_sink.specs.declared.kinds.Note.{Note as SinkNote}
use Rattle.pd_sink.specs.declared.kinds.Note.TheVariants as sink_note
use Rattle.pd_sink.specs.declared.kinds.Sending.{Sending as SinkSending}
use Rattle.pd_sink.specs.declared.kinds.Sending.TheVariants as sink_sending
use Rattle.pd_sink.specs.declared.kinds.Stimulus.{Stimulus as SinkStimulus}
use Rattle.pd_sink.specs.declared.kinds.Stimulus.TheVariants as sink_told
use Rattle.pd_plug.specs.declared.kinds.Stimulus.{Stimulus as PlugStimulus}
use Rattle.pd_plug.specs.declared.kinds.Stimulus.TheVariants as plug_told
use Rattle.pd_line.specs.declared.notes.Fault.{Fault}
use Rattle.pd_line.specs.declared.notes.Fault.TheVariants as fault

-- what a message is to the source
abbrev pub source_hears_as : Kind → ℕ → List ℕ → SourceStimulus
source_hears_as kind.Request header (object ∷ objects) = source_told.Request object (revision_of header)
source_hears_as kind.GetSourceCap header objects = source_told.GetSourceCap
source_hears_as kind.SinkCapabilities header objects = source_told.SinkCapabilities
source_hears_as kind.Accept header objects = source_told.Accept
source_hears_as kind.SoftReset header objects = source_told.SoftReset
source_hears_as kind.VendorDefined header objects = source_told.Identity (record { items = objects })
source_hears_as k header objects = source_told.Other

-- what a message is to the sink
abbrev pub sink_hears_as : Kind → List ℕ → SinkStimulus
sink_hears_as kind.SourceCapabilities objects = sink_told.SourceCapabilities (record { items = objects })
sink_hears_as kind.Accept objects = sink_told.Accept
sink_hears_as kind.Reject objects = sink_told.Reject
sink_hears_as kind.Wait objects = sink_told.Wait
sink_hears_as kind.PsRdy objects = sink_told.PsRdy
sink_hears_as kind.GetSinkCap objects = sink_told.GetSinkCap
sink_hears_as kind.SoftReset objects = sink_told.SoftReset
sink_hears_as k objects = sink_told.Other

-- what a message is to the plug
abbrev pub plug_hears_as : Kind → List ℕ → PlugStimulus
plug_hears_as kind.VendorDefined (object ∷ objects) =
    if object == header_of req then plug_told.DiscoverIdentity else plug_told.Other
plug_hears_as k objects = plug_told.Other

-- which message of the source has reached its receiver
abbrev pub sent_as : Kind → Sent
sent_as kind.Accept = sent.Accept
sent_as kind.PsRdy = sent.PsRdy
sent_as k = sent.Other

-- the kind and the objects of the message that the source sends
abbrev pub source_sends : SourceSending → Kind × List ℕ
source_sends source_sending.DiscoverIdentity = (kind.VendorDefined, header_of req ∷ [])
source_sends (source_sending.SourceCapabilities objects) = (kind.SourceCapabilities, objects.items)
source_sends source_sending.Accept = (kind.Accept, [])
source_sends source_sending.Reject = (kind.Reject, [])
source_sends source_sending.Wait = (kind.Wait, [])
source_sends source_sending.PsRdy = (kind.PsRdy, [])
source_sends source_sending.GetSinkCap = (kind.GetSinkCap, [])
source_sends source_sending.SoftReset = (kind.SoftReset, [])

-- the kind and the objects of the message that the sink sends
abbrev pub sink_sends : SinkSending → Kind × List ℕ
sink_sends (sink_sending.Request object) = (kind.Request, object ∷ [])
sink_sends sink_sending.GetSourceCap = (kind.GetSourceCap, [])
sink_sends (sink_sending.SinkCapabilities objects) = (kind.SinkCapabilities, objects.items)
sink_sends sink_sending.Accept = (kind.Accept, [])
sink_sends sink_sending.SoftReset = (kind.SoftReset, [])

abbrev pub source_message : SourceSending → MessageData
source_message sending = message_of (source_sends sending).0 (source_sends sending).1

abbrev pub sink_message : SinkSending → MessageData
sink_message sending = message_of (sink_sends sending).0 (sink_sends sending).1

-- the message that the plug sends, which answers Discover Identity
abbrev pub plug_message : List ℕ → MessageData
plug_message objects = message_of kind.VendorDefined objects

-- the table of the messages has the side among those that send this kind
abbrev pub SentBy : Side → Kind → Type 0
SentBy side kind = Contains (message_row kind).senders side

-- each message that an engine sends is one that its side sends by the table
pub record SendersAreListed : Type 0 where
  pub source : (sending : SourceSending) → SentBy Source (source_sends sending).0
  pub sink : (sending : SinkSending) → SentBy Sink (sink_sends sending).0
  pub plug : SentBy Plug kind.VendorDefined

-- what the source notes
abbrev pub source_fault : SourceNote → Fault
source_fault source_note.SoftReset = fault.SoftReset Source
source_fault source_note.HardReset = fault.HardReset Source
source_fault source_note.Disabled = fault.SourceDisabled
source_fault source_note.CableUnread = fault.CableUnread
source_fault source_note.Reject = fault.Reject
source_fault source_note.Wait = fault.Wait

-- what the sink notes
abbrev pub sink_fault : SinkNote → Fault
sink_fault sink_note.SoftReset = fault.SoftReset Sink
sink_fault sink_note.HardReset = fault.HardReset Sink
sink_fault sink_note.Disabled = fault.SinkDisabled
sink_fault sink_note.Mismatch = fault.Mismatch
