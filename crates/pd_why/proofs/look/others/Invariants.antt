use Rattle.std.proofs.Common.{◌≡◌, ◌-◌}
use Rattle.pd_run.specs.Live.{port_at}
use Rattle.pd_why.specs.Holds.{others}
use Rattle.pd_why.proofs.look.others.Given as goal

abbrev pub invariant-loop-number : goal.invariant-loop-number
invariant-loop-number g l = l.others.items ≡ others (port_at l.live) (l.port - 1) l.number
