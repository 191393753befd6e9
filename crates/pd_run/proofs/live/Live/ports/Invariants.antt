use Rattle.std.proofs.Common.{◌≡◌, take}
use Rattle.pd_run.proofs.live.Live.ports.Given as goal

abbrev pub invariant-loop-port : goal.invariant-loop-port
invariant-loop-port g l = l.ports.items ≡ take l.port-index l.port-items
