use Rattle.std.proofs.Common.{length}
use Rattle.pd_explain.proofs.numbers.+push_later_supplies.Given as goal

abbrev pub decreases-push_later_supplies : goal.decreases-push_later_supplies
decreases-push_later_supplies l = length l.supplies.now
