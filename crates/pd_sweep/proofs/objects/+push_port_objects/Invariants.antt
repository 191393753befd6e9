use Rattle.std.proofs.Common.{length}
use Rattle.pd_sweep.proofs.objects.+push_port_objects.Given as goal

abbrev pub decreases-push_port_objects : goal.decreases-push_port_objects
decreases-push_port_objects l = length l.measures.now
