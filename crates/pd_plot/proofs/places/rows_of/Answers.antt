use Rattle.pd_plot.specs.Heats.{row_at}
use Rattle.pd_plot.proofs.Ranges.{mapped_more}
use Rattle.pd_plot.proofs.places.rows_of.Goals as goal

pub loop-row-preserved : goal.loop-row-preserved
loop-row-preserved c =
    mapped_more (row_at c.args.table) c.loop-row.row _ _ _ c.loop-row.invariant c.row_at.ensures c.in_ok-push.ensures.items
