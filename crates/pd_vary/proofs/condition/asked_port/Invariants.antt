use Rattle.std.proofs.Common.{◌≡◌, fold, take}
use Rattle.pd_vary.specs.Asks.{greatest_port}
use Rattle.pd_vary.specs.Conditions.{condition_port}
use Rattle.pd_vary.proofs.condition.asked_port.Given as goal

abbrev pub invariant-loop-condition : goal.invariant-loop-condition
invariant-loop-condition l = l.port ≡ fold condition_port (greatest_port l.asks) (take l.condition-index l.wheres)
