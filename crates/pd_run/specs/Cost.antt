-- What a runner's work costs, in steps of ports.
use Rattle.std.specs.Prelude.{◌≡◌, ℕ, List, length, Option}
use Rattle.pd_port.specs.Meter.{raised}
use Rattle.pd_scenario.specs.Plan.{Plan}
use Rattle.pd_run.specs.Run.{Move, Run}

-- what it costs to go from one plan, or from none, to another: so many steps
abbrev pub Costs : Type 1
Costs = Option Plan → Plan → ℕ → Type 0

-- the meter rises by what that costs, and by no more
abbrev pub IsPaid : Costs → Option Plan → Plan → ℕ → ℕ → Type 0
IsPaid costs old plan before after = (n : ℕ) × costs old plan n × (after ≡ raised before n)

-- each move of the plan's run is a step, whatever was run before
abbrev pub CostsAllMoves : Costs
CostsAllMoves old plan n = (moves : List Move) × Run plan moves × (n ≡ length moves)
