use Rattle.std.proofs.Common.{length}
use Rattle.pd_plot.proofs.places.+are_numbers.Given as goal

abbrev pub decreases-are_numbers : goal.decreases-are_numbers
decreases-are_numbers l = length l.words.now
