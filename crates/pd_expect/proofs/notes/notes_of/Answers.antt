use Rattle.pd_expect.specs.Counted.{notes_at}
use Rattle.pd_sweep.proofs.FoldLemmas.{flat_more}
use Rattle.pd_expect.proofs.notes.notes_of.Goals as goal

pub loop-index-preserved : goal.loop-index-preserved
loop-index-preserved g c =
    flat_more (notes_at c.args.wanted) (g.T.Runner.entries c.args.run.now) c.loop-index.index c.loop-index.notes.items
    c.push_index.new.notes.items c.loop-index.invariant c.in_ok-push_index.ensures
