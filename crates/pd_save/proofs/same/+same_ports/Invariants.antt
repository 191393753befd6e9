use Rattle.std.proofs.Common.{length}
use Rattle.pd_save.proofs.same.+same_ports.Given as goal

abbrev pub decreases-same_ports : goal.decreases-same_ports
decreases-same_ports l = length l.ports.now
