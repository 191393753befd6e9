use Rattle.std.proofs.Common.{◌≡◌}
use Rattle.std.specs.Io.KnownBytes.{Appends}
use Rattle.pd_scenario.specs.Plans.{plan_of}
use Rattle.pd_report.specs.Walk.{IsWalk, left_of, text_before}
use Rattle.pd_report.proofs.margin_lines.write_lines.Given as goal

abbrev pub invariant-loop-walk : goal.invariant-loop-walk
invariant-loop-walk g l = record {
  walked : IsWalk (plan_of l.scenario) (g.T.Runner.entries l.run) l.walk;
  end_is : l.end ≡ (plan_of l.scenario).end;
  written : Appends (g.W.TextOut.taken l.fn.writer) (g.W.TextOut.taken l.writer)
      (text_before (plan_of l.scenario) (g.T.Runner.entries l.run) l.walk.at);
  counts : g.W.TextOut.failures l.writer ≡ g.W.TextOut.failures l.fn.writer;
}

abbrev pub decreases-loop-walk : goal.decreases-loop-walk
decreases-loop-walk g l = left_of (plan_of l.scenario) (g.T.Runner.entries l.run) l.walk
