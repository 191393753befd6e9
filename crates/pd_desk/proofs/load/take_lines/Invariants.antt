use Rattle.std.proofs.Common.{◌≡◌, ◌⊎◌, ◌≤◌, length}
use Rattle.std.specs.Str.Lines.{lines}
use Rattle.pd_bench.specs.Session.{answered}
use Rattle.pd_scene.specs.Script.{is_any_refused}
use Rattle.pd_desk.specs.Desk.{Standing, TakesAll}
use Rattle.pd_desk.specs.Standings.{standing_of}
use Rattle.pd_desk.proofs.load.take_lines.Given as goal

abbrev pub invariant-loop-line : goal.invariant-loop-line
invariant-loop-line g l = record {
  refused :
      is_any_refused g.row.N l.fn.desk.state.scenario (lines l.script) ≡ is_any_refused g.row.N l.desk.state.scenario (lines l.rest);
  takes :
      (d' : Standing) → TakesAll g.row.N (standing_of l.desk) (lines l.rest) d'
      → TakesAll g.row.N (standing_of l.fn.desk) (lines l.script) d';
  room : (answered l.desk.state.tally ≤ answered l.fn.desk.state.tally) ⊎ (answered l.desk.state.tally ≤ 4000000000);
}

abbrev pub decreases-loop-line : goal.decreases-loop-line
decreases-loop-line g l = length l.rest
