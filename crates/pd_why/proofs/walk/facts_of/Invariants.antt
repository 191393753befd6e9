use Rattle.std.proofs.Common.{◌≡◌, List, length}
use Rattle.pd_port.specs.Meter.{raised}
use Rattle.pd_run.specs.Run.{Move}
use Rattle.pd_run.specs.Live.{StandsAfter}
use Rattle.pd_run.specs.StepsLeft.{steps_left}
use Rattle.pd_why.specs.Story.{story_of}
use Rattle.pd_why.proofs.walk.facts_of.Given as goal

abbrev pub invariant-loop-port : goal.invariant-loop-port
invariant-loop-port g l = record {
  moves : List Move;
  stands : StandsAfter l.plan moves l.live;
  story : l.story ≡ story_of l.plan l.question moves;
  cost : l.meter ≡ raised l.fn.meter (length moves);
}

abbrev pub decreases-loop-port : goal.decreases-loop-port
decreases-loop-port g l = steps_left l.plan l.live
