use Rattle.pd_plot.specs.Heats.{column_at}
use Rattle.pd_plot.proofs.Ranges.{mapped_more}
use Rattle.pd_plot.proofs.places.columns_of.Goals as goal

pub loop-column-preserved : goal.loop-column-preserved
loop-column-preserved c =
    mapped_more (column_at c.args.table) c.loop-column.column _ _ _ c.loop-column.invariant c.column_at.ensures c.in_ok-push.ensures.items
