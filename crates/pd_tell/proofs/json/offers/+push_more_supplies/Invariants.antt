use Rattle.std.proofs.Common.{length}
use Rattle.pd_tell.proofs.json.offers.+push_more_supplies.Given as goal

abbrev pub decreases-push_more_supplies : goal.decreases-push_more_supplies
decreases-push_more_supplies l = length l.supplies.now
