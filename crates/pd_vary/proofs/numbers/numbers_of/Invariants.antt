use Rattle.std.proofs.Common.{◌≡◌, map, take}
use Rattle.pd_vary.specs.Asks.{number_of}
use Rattle.pd_vary.proofs.numbers.numbers_of.Given as goal

abbrev pub invariant-loop-ask : goal.invariant-loop-ask
invariant-loop-ask g l = l.numbers.items ≡ map (number_of (g.T.Runner.entries l.run) l.effect) (take l.ask-index l.asks)
