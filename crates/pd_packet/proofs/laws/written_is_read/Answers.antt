use Rattle.pd_packet.proofs.Answered.{written_is_read}
use Rattle.pd_packet.proofs.laws.written_is_read.Goals as goal

pub returns : goal.returns
returns c = written_is_read
