use Rattle.std.proofs.Common.{length}
use Rattle.pd_explain.proofs.numbers.+floors_with.Given as goal

abbrev pub decreases-floors_with : goal.decreases-floors_with
decreases-floors_with l = length l.settings.now
