use Rattle.std.proofs.Common.{length}
use Rattle.pd_sweep.proofs.words.+push_ports.Given as goal

abbrev pub decreases-push_ports : goal.decreases-push_ports
decreases-push_ports l = length l.measures.now
