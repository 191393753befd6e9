use Rattle.std.proofs.Common.{None}
use Rattle.pd_sweep.proofs.FoldLemmas.{fold_seen}
use Rattle.pd_vary.specs.Asks.{extremes_of, powered}
use Rattle.pd_vary.proofs.extremes.extremes_of.Goals as goal

pub loop-index-preserved : goal.loop-index-preserved
unfolding extremes_of
loop-index-preserved g c =
    fold_seen (powered c.args.port) None (g.T.Runner.entries c.args.run.now) c.loop-index.index c.loop-index.extremes
    c.noted-extremes.result c.loop-index.invariant c.noted-extremes.ensures
