use Rattle.std.proofs.Common.{length}
use Rattle.pd_vary.proofs.names.+ask_among.Given as goal

abbrev pub decreases-ask_among : goal.decreases-ask_among
decreases-ask_among l = length l.whats.now
