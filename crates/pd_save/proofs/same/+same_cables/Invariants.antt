use Rattle.std.proofs.Common.{length}
use Rattle.pd_save.proofs.same.+same_cables.Given as goal

abbrev pub decreases-same_cables : goal.decreases-same_cables
decreases-same_cables l = length l.cables.now
