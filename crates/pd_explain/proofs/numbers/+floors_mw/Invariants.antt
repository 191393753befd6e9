use Rattle.std.proofs.Common.{length}
use Rattle.pd_explain.proofs.numbers.+floors_mw.Given as goal

abbrev pub decreases-floors_mw : goal.decreases-floors_mw
decreases-floors_mw l = length l.settings.now
