use Rattle.std.proofs.Common.{◌≡◌, ◌-◌}
use Rattle.pd_run.specs.Live.{port_at}
use Rattle.pd_why.specs.Holds.{left_of}
use Rattle.pd_why.proofs.look.left.Given as goal

abbrev pub invariant-loop-number : goal.invariant-loop-number
invariant-loop-number g l = l.left ≡ left_of l.budget (port_at l.live) (l.port - 1) l.number
