use Rattle.pd_packet.proofs.Entries.{entries_are_divided}
use Rattle.pd_packet.proofs.laws.entries_are_divided.Goals as goal

pub returns : goal.returns
returns c = entries_are_divided
