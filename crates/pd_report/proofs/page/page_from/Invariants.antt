use Rattle.std.proofs.Common.{◌≡◌, ◌⊎◌, ◌-◌, ◌<◌, ◌≤◌, ◌++◌, [], length, take}
use Rattle.std.specs.List.{flat_map}
use Rattle.pd_report.proofs.page.page_from.Given as goal

abbrev pub invariant-loop-index : goal.invariant-loop-index
invariant-loop-index g l = record {
  text : flat_map (g.S.Show.adds l.show) (take l.index (g.T.Runner.entries l.run))
      ≡ flat_map (g.S.Show.adds l.show) (take l.from (g.T.Runner.entries l.run)) ++ l.page;
  within : l.index ≤ length (g.T.Runner.entries l.run);
  more : (l.from < l.index) ⊎ ((l.from ≡ l.index) × (l.page ≡ []));
}

abbrev pub decreases-loop-index : goal.decreases-loop-index
decreases-loop-index g l = length (g.T.Runner.entries l.run) - l.index
