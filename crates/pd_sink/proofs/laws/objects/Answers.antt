use Rattle.pd_sink.proofs.Asks.{Requests-asked_of}
use Rattle.pd_sink.proofs.Capabilities.{Tells-sink_object}
use Rattle.pd_sink.proofs.laws.objects.Goals as goal

pub returns-clause-requests : goal.returns-clause-requests
returns-clause-requests c = Requests-asked_of

pub returns-clause-capabilities : goal.returns-clause-capabilities
returns-clause-capabilities c = Tells-sink_object
