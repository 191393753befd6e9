use Rattle.std.proofs.Common.{◌≡◌, ◌-◌, ◌≤◌, length}
use Rattle.pd_bench.specs.Stream.{IsRunning}
use Rattle.pd_bench.specs.Session.{answered}
use Rattle.pd_bench.specs.Stream.{Taking, so_far}
use Rattle.pd_bench.proofs.bench.take_in.Given as goal

abbrev pub invariant-loop-total : goal.invariant-loop-total
invariant-loop-total g l = record {
  taking : Taking g.T.Runner.costs g.row.N l.total (g.R.TextIn.left l.fn.reader) (g.R.TextIn.left l.reader)
      (g.W.TextOut.taken l.fn.writer) (g.W.TextOut.taken l.writer) l.fn.state.scenario (so_far l.fn.state.tally l.fn.meter) l.fn.line
      l.state.scenario (so_far l.state.tally l.meter) l.line;
  reads : g.R.TextIn.failures l.reader ≡ g.R.TextIn.failures l.fn.reader;
  writes : g.W.TextOut.failures l.writer ≡ g.W.TextOut.failures l.fn.writer;
  runs : IsRunning (g.T.Runner.plan l.runner) (g.T.Runner.entries l.runner) l.state.scenario;
  room : answered l.state.tally ≤ l.total;
  few : l.total ≤ 16777217;
  rises : l.fn.meter ≤ l.meter;
  space : length l.buffer ≡ 512;
}

abbrev pub decreases-loop-total : goal.decreases-loop-total
decreases-loop-total g l = 16777217 - l.total
