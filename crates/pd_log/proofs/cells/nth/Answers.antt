use Rattle.std.proofs.Common.{◌∙◌, ap, arith}
use Rattle.std.specs.Prelude.{option_map}
use Rattle.pd_log.specs.Cells.{cells_behind}
use Rattle.pd_log.proofs.CellByCell.{next_cell}
use Rattle.pd_log.proofs.cells.nth.Goals as goal

pub loop-left-preserved : goal.loop-left-preserved
loop-left-preserved c =
    next_cell c.args.separator c.loop-left.left c.loop-left.cell.now c.first_cell-in-loop-left.result.0.now c.in-Some.rest.now
    (cells_behind c.args.separator (option_map (λ rest. rest.now) c.first_cell-in-loop-left.result.1))
    (option_map (λ rest. rest.now) c.loop-left.behind) (omega arith) (ap (option_map (λ rest. rest.now)) c.in-Some.is)
    c.first_cell-in-loop-left.ensures.parted
    ∙ c.loop-left.invariant
