use Rattle.std.proofs.Common.{◌≡◌, length}
use Rattle.pd_edit.specs.Refusals.{voltages_rise}
use Rattle.pd_edit.proofs.refusals.voltages_rise.Given as goal

abbrev pub invariant-loop-rest : goal.invariant-loop-rest
invariant-loop-rest l = voltages_rise l.rest ≡ voltages_rise l.supplies

abbrev pub decreases-loop-rest : goal.decreases-loop-rest
decreases-loop-rest l = length l.rest
