use Rattle.std.proofs.Common.{◌≡◌, List, length}
use Rattle.pd_run.specs.Run.{Move}
use Rattle.pd_run.specs.Live.{StandsAfter}
use Rattle.pd_run.specs.StepsLeft.{steps_left}
use Rattle.pd_show.proofs.ShowLemmas.{Progress, watched}
use Rattle.pd_show.proofs.walk.show.Given as goal

abbrev pub invariant-loop-port : goal.invariant-loop-port
invariant-loop-port g l = record {
  moves : List Move;
  stands : StandsAfter l.plan moves l.live;
  progress : Progress l.plan l.choice moves l.page (g.W.TextOut.taken l.fn.writer) (g.W.TextOut.taken l.writer);
  watched : l.watches.items ≡ watched l.plan moves;
  ports : length l.watches.items ≡ g.row.N;
  counts : g.W.TextOut.failures l.writer ≡ g.W.TextOut.failures l.fn.writer;
}

abbrev pub decreases-loop-port : goal.decreases-loop-port
decreases-loop-port g l = steps_left l.plan l.live
