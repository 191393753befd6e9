use Rattle.std.proofs.Common.{◌≡◌, ◌+◌, take}
use Rattle.pd_scenario.specs.Scenarios.{floors_mw}
use Rattle.pd_scenario.proofs.floors.are_funded.Given as goal

abbrev pub invariant-loop-port : goal.invariant-loop-port
invariant-loop-port l = l.left + floors_mw (take l.port-index l.settings) ≡ l.budget_mw
