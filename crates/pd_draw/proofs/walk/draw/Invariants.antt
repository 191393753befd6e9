use Rattle.std.proofs.Common.{◌≡◌, List, length}
use Rattle.pd_run.specs.Run.{Move}
use Rattle.pd_run.specs.Live.{StandsAfter}
use Rattle.pd_run.specs.StepsLeft.{steps_left}
use Rattle.pd_show.specs.Seen.{all_seen}
use Rattle.pd_show.proofs.ShowLemmas.{watched}
use Rattle.pd_chart.specs.Curves.{curves_of}
use Rattle.pd_draw.specs.Lanes.{drawn_of}
use Rattle.pd_draw.proofs.WalkLemmas.{texts_of}
use Rattle.pd_draw.proofs.walk.draw.Given as goal

abbrev pub invariant-loop-port : goal.invariant-loop-port
invariant-loop-port g l = record {
  moves : List Move;
  stands : StandsAfter l.plan moves l.live;
  watched : l.watches.items ≡ watched l.plan moves;
  ports : length l.watches.items ≡ g.row.N;
  curves_are : l.curves ≡ curves_of l.frame l.plan (all_seen l.plan moves);
  lanes_are : l.lanes.lanes ≡ (drawn_of l.frame l.look.port (all_seen l.plan moves)).lanes;
  before_is : l.lanes.before ≡ (drawn_of l.frame l.look.port (all_seen l.plan moves)).before;
  texts_are : l.lanes.texts ≡ texts_of (drawn_of l.frame l.look.port (all_seen l.plan moves)).elements;
}

abbrev pub decreases-loop-port : goal.decreases-loop-port
decreases-loop-port g l = steps_left l.plan l.live
