use Rattle.std.proofs.Common.{◌≡◌, length, map}
use Rattle.toml.specs.View.{view}
use Rattle.pd_scenario_tables.specs.Values.{are_rising, supply_of}
use Rattle.pd_scenario_tables.proofs.values.are_rising.Given as goal

abbrev pub invariant-loop-rest : goal.invariant-loop-rest
invariant-loop-rest l = are_rising (map (λ v. supply_of (view v)) l.rest) ≡ are_rising (map (λ v. supply_of (view v)) l.items)

abbrev pub decreases-loop-rest : goal.decreases-loop-rest
decreases-loop-rest l = length l.rest
