use Rattle.std.proofs.Common.{◌∷◌, ◌∙◌, ap, arith}
use Rattle.pd_log.specs.Cells.{cells_behind}
use Rattle.pd_log.proofs.CellByCell.{behind_none, behind_some, first}
use Rattle.pd_log.proofs.cells.first_cell.Goals as goal

pub returns-in-empty-clause-parted : goal.returns-in-empty-clause-parted
returns-in-empty-clause-parted c =
    let cut = first c.args.separator c.args.line.now c.split_at.result.0.now c.split_at.result.1.now
    (rw c.cell_len.ensures.value at c.split_at.ensures.front) (rw c.cell_len.ensures.value at c.split_at.ensures.back) in
    cut ∙ ap (λ rest. c.split_at.result.0.now ∷ cells_behind c.args.separator rest) (behind_none c.split_at.result.1.now (omega arith))

pub returns-in-len1-up-clause-parted : goal.returns-in-len1-up-clause-parted
returns-in-len1-up-clause-parted c =
    let cut = first c.args.separator c.args.line.now c.split_at.result.0.now c.split_at.result.1.now
    (rw c.cell_len.ensures.value at c.split_at.ensures.front) (rw c.cell_len.ensures.value at c.split_at.ensures.back) in
    cut ∙ ap (λ rest. c.split_at.result.0.now ∷ cells_behind c.args.separator rest)
    (behind_some c.split_at.result.1.now c.in-len1-up.len_at_least)
