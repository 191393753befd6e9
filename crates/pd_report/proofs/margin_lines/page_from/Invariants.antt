use Rattle.std.proofs.Common.{◌≡◌, ◌++◌, ◌<◌, ◌⊎◌, []}
use Rattle.pd_scenario.specs.Plans.{plan_of}
use Rattle.pd_report.specs.Walk.{IsWalk, left_of, text_before}
use Rattle.pd_report.proofs.margin_lines.page_from.Given as goal

abbrev pub invariant-loop-walk : goal.invariant-loop-walk
invariant-loop-walk g l = record {
  walked : IsWalk (plan_of l.scenario) (g.T.Runner.entries l.run) l.walk;
  end_is : l.end ≡ (plan_of l.scenario).end;
  text : text_before (plan_of l.scenario) (g.T.Runner.entries l.run) l.walk.at
      ≡ text_before (plan_of l.scenario) (g.T.Runner.entries l.run) l.fn.walk.at ++ l.page;
  less : (left_of (plan_of l.scenario) (g.T.Runner.entries l.run) l.walk
      < left_of (plan_of l.scenario) (g.T.Runner.entries l.run) l.fn.walk)
      ⊎ ((left_of (plan_of l.scenario) (g.T.Runner.entries l.run) l.walk
      ≡ left_of (plan_of l.scenario) (g.T.Runner.entries l.run) l.fn.walk)
      × (l.walk.at ≡ l.fn.walk.at) × (l.page ≡ []));
}

abbrev pub decreases-loop-walk : goal.decreases-loop-walk
decreases-loop-walk g l = left_of (plan_of l.scenario) (g.T.Runner.entries l.run) l.walk
