use Rattle.std.proofs.Common.{◌≡◌, ◌++◌, List, length, map}
use Rattle.pd_run.specs.Run.{Move, shown}
use Rattle.pd_run.specs.Live.{StandsAfter}
use Rattle.pd_run.specs.StepsLeft.{steps_left}
use Rattle.pd_watch.specs.Watch.{after_steps, all_at_rest}
use Rattle.pd_warn.specs.Warnings.{steps_part}
use Rattle.pd_warn.proofs.run.push_run.Given as goal

abbrev pub invariant-loop-port : goal.invariant-loop-port
invariant-loop-port g l = record {
  moves : List Move;
  stands : StandsAfter l.plan moves l.live;
  parts : l.out.items ≡ l.fn.out.items ++ steps_part (all_at_rest g.row.N) (map shown moves);
  watched : l.watches.items ≡ after_steps (all_at_rest g.row.N) (map shown moves);
  count : length l.watches.items ≡ g.row.N;
}

abbrev pub decreases-loop-port : goal.decreases-loop-port
decreases-loop-port g l = steps_left l.plan l.live
