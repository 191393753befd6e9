use Rattle.std.proofs.Common.{◌≡◌, ◌-◌, [], length}
use Rattle.pd_report.proofs.ShownLemmas.{Walked}
use Rattle.pd_report.proofs.page.write_entries.Given as goal

abbrev pub invariant-loop-seen : goal.invariant-loop-seen
invariant-loop-seen g l = record {
  walked : Walked (g.S.Show.adds l.show) [] (g.T.Runner.entries l.run) l.seen (g.W.TextOut.taken l.fn.writer)
      (g.W.TextOut.taken l.writer);
  counts : g.W.TextOut.failures l.writer ≡ g.W.TextOut.failures l.fn.writer;
}

abbrev pub decreases-loop-seen : goal.decreases-loop-seen
decreases-loop-seen g l = length (g.T.Runner.entries l.run) - l.seen
