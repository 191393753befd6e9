-- A port that sheds holds its floor alone, to the end of that instant.
use Rattle.std.specs.Prelude.{◌≡◌, true, false, List, ◌∷◌, ◌++◌, All, Some}
use Rattle.pd_objects.specs.declared.query.Answer.TheVariants as answer
use Rattle.pd_port.specs.Happens.{is_budget}
use Rattle.pd_port.specs.Sheds.{HoldsFloorAlone}
use Rattle.pd_scenario.specs.Plan.{Plan, settings_of}
use Rattle.pd_run.specs.Run.{Move, Run, standing}

-- in this move a port sheds: the budget has changed, and the port's hold may not stay
pub record Sheds (m : Move) : Type 0 where
  pub at_change : is_budget m.due.what ≡ true
  pub may_not_stay : m.answer ≡ Some (answer.Fits false)

-- After a move in which a port sheds, and after each further move at its time, of whichever port, the port that has shed
-- holds its floor alone, and has no contract.
abbrev pub ShedsLast : Plan → List Move → Type 0
ShedsLast plan moves =
    (earlier : List Move) (m : Move) (since rest : List Move) →
    moves ≡ earlier ++ m ∷ (since ++ rest) → Sheds m → All (λ x. x.due.time ≡ m.due.time) since →
    HoldsFloorAlone (settings_of plan m.port) (standing plan (earlier ++ m ∷ since) m.port).state

-- so it is in each run
abbrev pub ShedsAlwaysLast : Type 0
ShedsAlwaysLast = (plan : Plan) (moves : List Move) → Run plan moves → ShedsLast plan moves
