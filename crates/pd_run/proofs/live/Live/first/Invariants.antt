use Rattle.std.proofs.Common.{option_map}
use Rattle.pd_run.specs.Live.{IsSoFar}
use Rattle.pd_run.proofs.live.Live.first.Given as goal

abbrev pub invariant-loop-port : goal.invariant-loop-port
invariant-loop-port g l = IsSoFar l.plan l.self l.port (option_map (λ r. (r.0, r.1.now)) l.first)
