use Rattle.std.proofs.Common.{length}
use Rattle.pd_edit.proofs.refusals.+are_funded_with.Given as goal

abbrev pub decreases-are_funded_with : goal.decreases-are_funded_with
decreases-are_funded_with l = length l.settings.now
