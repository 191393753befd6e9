use Rattle.std.proofs.Common.{◌≡◌, ◌+◌, length, false}
use Rattle.pd_log.specs.Cells.{cell_length}
use Rattle.pd_log.proofs.cells.cell_len.Given as goal

abbrev pub invariant-loop-rest : goal.invariant-loop-rest
invariant-loop-rest l =
    (l.len + cell_length l.separator l.is_marked l.is_inside l.rest ≡ cell_length l.separator l.is_marked false l.line)
    × (l.len + length l.rest ≡ length l.line)

abbrev pub decreases-loop-rest : goal.decreases-loop-rest
decreases-loop-rest l = length l.rest
