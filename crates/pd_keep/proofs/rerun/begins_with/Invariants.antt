use Rattle.pd_keep.specs.Rerun.{BeginsWith}
use Rattle.pd_keep.proofs.rerun.begins_with.Given as goal

abbrev pub invariant-loop-port : goal.invariant-loop-port
invariant-loop-port g l = BeginsWith l.port l.span l.live
