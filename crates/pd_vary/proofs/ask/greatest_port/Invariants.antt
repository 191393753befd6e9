use Rattle.std.proofs.Common.{◌≡◌, None, fold, take}
use Rattle.pd_vary.specs.Asks.{later_port}
use Rattle.pd_vary.proofs.ask.greatest_port.Given as goal

abbrev pub invariant-loop-ask : goal.invariant-loop-ask
invariant-loop-ask l = l.port ≡ fold later_port None (take l.ask-index l.asks)
