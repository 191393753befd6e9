use Rattle.std.proofs.Common.{◌≡◌, ◌+◌, ◌-◌, ◌≤◌, []}
use Rattle.pd_bench.specs.Session.{answered}
use Rattle.pd_bench.specs.Stream.{IsRunning}
use Rattle.pd_desk.specs.Desk.{with_shelf}
use Rattle.pd_desk.specs.Ends.{beside}
use Rattle.pd_desk.specs.Standings.{standing_of}
use Rattle.pd_desk.specs.Taking.{Answering}
use Rattle.pd_desk.proofs.lines.answer_ended.Given as goal

abbrev pub invariant-loop-line : goal.invariant-loop-line
invariant-loop-line g l = record {
  answering : Answering g.row.N (g.R.TextIn.left l.fn.reader) (g.R.TextIn.left l.reader)
      (g.W.TextOut.taken l.fn.outlets.answers) (g.W.TextOut.taken l.outlets.answers)
      (beside (g.E.TextOut.taken l.fn.outlets.reasons) (g.E.TextOut.failures l.fn.outlets.reasons))
      (beside (g.E.TextOut.taken l.outlets.reasons) (g.E.TextOut.failures l.outlets.reasons))
      (g.S.Shelf.known l.fn.outlets.shelf) l.fn.desk.state.scenario
      (with_shelf (standing_of l.desk) (g.S.Shelf.known l.outlets.shelf)) l.total;
  reads : g.R.TextIn.failures l.reader ≡ g.R.TextIn.failures l.fn.reader;
  writes : g.W.TextOut.failures l.outlets.answers ≡ g.W.TextOut.failures l.fn.outlets.answers;
  runs : IsRunning (g.T.Runner.plan l.runner) (g.T.Runner.entries l.runner) l.desk.state.scenario;
  room : answered l.desk.state.tally ≤ 4000000000 + l.total;
  few : l.total ≤ 16777217;
  empty : l.line ≡ [];
}

abbrev pub decreases-loop-line : goal.decreases-loop-line
decreases-loop-line g l = 16777217 - l.total
