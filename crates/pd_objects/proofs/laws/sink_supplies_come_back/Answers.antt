use Rattle.pd_objects.specs.SinkSupply.{sink_word_of}
use Rattle.pd_objects.proofs.SinkSupplies.{HasSinkFields-word_of, sink_supply_of-word}
use Rattle.pd_objects.proofs.laws.sink_supplies_come_back.Goals as goal

pub returns : goal.returns
returns c = λ v h. (HasSinkFields-word_of v h, sink_supply_of-word (sink_word_of v) v (HasSinkFields-word_of v h))
