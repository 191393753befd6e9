use Rattle.std.proofs.Common.{◌≡◌, length}
use Rattle.pd_hints.specs.Slips.{is_slip}
use Rattle.pd_hints.proofs.slip.is_slip.Given as goal

abbrev pub invariant-loop-xs : goal.invariant-loop-xs
invariant-loop-xs l = is_slip l.word l.other ≡ is_slip l.left l.right

abbrev pub decreases-loop-xs : goal.decreases-loop-xs
decreases-loop-xs l = length l.left
