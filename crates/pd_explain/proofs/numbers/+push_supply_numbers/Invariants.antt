use Rattle.std.proofs.Common.{length}
use Rattle.pd_explain.proofs.numbers.+push_supply_numbers.Given as goal

abbrev pub decreases-push_supply_numbers : goal.decreases-push_supply_numbers
decreases-push_supply_numbers l = length l.supplies.now
