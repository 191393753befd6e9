use Rattle.std.proofs.Common.{length}
use Rattle.pd_sweep.proofs.kind_lines.+push_kind_lines.Given as goal

abbrev pub decreases-push_kind_lines : goal.decreases-push_kind_lines
decreases-push_kind_lines l = length l.kinds.now
