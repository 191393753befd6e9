use Rattle.std.proofs.Common.{length}
use Rattle.pd_objects.proofs.supply.+same_supplies.Given as goal

abbrev pub decreases-same_supplies : goal.decreases-same_supplies
decreases-same_supplies l = length l.supplies.now
