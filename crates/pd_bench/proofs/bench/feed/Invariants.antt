use Rattle.std.proofs.Common.{◌≡◌, ◌+◌, ◌≤◌, take}
use Rattle.pd_bench.specs.Stream.{Fed, IsRunning, so_far}
use Rattle.pd_bench.specs.Session.{answered}
use Rattle.pd_bench.proofs.bench.feed.Given as goal

abbrev pub invariant-loop-byte : goal.invariant-loop-byte
invariant-loop-byte g l = record {
  fed : Fed g.T.Runner.costs g.row.N (g.W.TextOut.taken l.initial.writer) (g.W.TextOut.taken l.writer) l.initial.state.scenario
      (so_far l.initial.state.tally l.initial.meter) l.initial.line (take l.byte-index l.chunk) l.state.scenario
      (so_far l.state.tally l.meter) l.line;
  counts : g.W.TextOut.failures l.writer ≡ g.W.TextOut.failures l.initial.writer;
  runs : IsRunning (g.T.Runner.plan l.runner) (g.T.Runner.entries l.runner) l.state.scenario;
  room : answered l.state.tally ≤ answered l.initial.state.tally + l.byte-index;
  rises : l.initial.meter ≤ l.meter;
}
