-- What the kept runner's work costs.
use Rattle.std.specs.Prelude.{◌≡◌, List, [], Option, None, Some}
use Rattle.pd_scenario.specs.Plan.{Plan}
use Rattle.pd_run.specs.Cost.{Costs}
use Rattle.pd_run.specs.Run.{Move, Run}
use Rattle.pd_keep.specs.Fresh.{FreshBeside}

-- the moves are the run of the plan; where there is no plan there are none
abbrev pub IsRunOf : Option Plan → List Move → Type 0
IsRunOf None moves = moves ≡ []
IsRunOf (Some plan) moves = Run plan moves

-- the moves of the plan's run that are fresh beside the run before are steps, and no other is
abbrev pub CostsFreshMoves : Costs
CostsFreshMoves old plan n =
    (old_moves : List Move) × (moves : List Move) × IsRunOf old old_moves × Run plan moves × FreshBeside old old_moves plan moves n
