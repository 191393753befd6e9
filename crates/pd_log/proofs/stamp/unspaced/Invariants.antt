use Rattle.std.proofs.Common.{◌≡◌, length}
use Rattle.pd_log.specs.Stamps.{unspaced}
use Rattle.pd_log.proofs.stamp.unspaced.Given as goal

abbrev pub invariant-loop-bytes : goal.invariant-loop-bytes
invariant-loop-bytes l = unspaced l.bytes ≡ unspaced l.initial.bytes

abbrev pub decreases-loop-bytes : goal.decreases-loop-bytes
decreases-loop-bytes l = length l.bytes
