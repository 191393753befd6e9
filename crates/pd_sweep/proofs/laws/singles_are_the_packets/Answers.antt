use Rattle.pd_sweep.proofs.WholeLemmas.{singles_are_the_packets}
use Rattle.pd_sweep.proofs.laws.singles_are_the_packets.Goals as goal

pub returns : goal.returns
returns c = singles_are_the_packets
