-- What the engines send is listed in the table of the messages.
use Rattle.std.proofs.Common.{arith, refl}
use Rattle.pd_header.specs.declared.side.Side.TheVariants.{Source, Sink}
use Rattle.pd_source.specs.declared.kinds.Sending.{Sending as SourceSending}
use Rattle.pd_source.specs.declared.kinds.Sending.TheVariants as source_sending
use Rattle.pd_sink.specs.declared.kinds.Sending.{Sending as SinkSending}
use Rattle.pd_sink.specs.declared.kinds.Sending.TheVariants as sink_sending
use Rattle.pd_line.specs.Told.{source_sends, sink_sends, SentBy, SendersAreListed}

source_listed : (sending : SourceSending) → SentBy Source (source_sends sending).0
source_listed source_sending.DiscoverIdentity = (0, omega arith, refl)
source_listed (source_sending.SourceCapabilities objects) = (0, omega arith, refl)
source_listed source_sending.Accept = (0, omega arith, refl)
source_listed source_sending.Reject = (0, omega arith, refl)
source_listed source_sending.Wait = (0, omega arith, refl)
source_listed source_sending.PsRdy = (0, omega arith, refl)
source_listed source_sending.GetSinkCap = (0, omega arith, refl)
source_listed source_sending.SoftReset = (0, omega arith, refl)

sink_listed : (sending : SinkSending) → SentBy Sink (sink_sends sending).0
sink_listed (sink_sending.Request object) = (0, omega arith, refl)
sink_listed sink_sending.GetSourceCap = (0, omega arith, refl)
sink_listed (sink_sending.SinkCapabilities objects) = (0, omega arith, refl)
sink_listed sink_sending.Accept = (1, omega arith, refl)
sink_listed sink_sending.SoftReset = (1, omega arith, refl)

pub senders_are_listed : SendersAreListed
senders_are_listed = record { source = source_listed; sink = sink_listed; plug = (1, omega arith, refl) }
