-- What holds of runs.
use Rattle.std.specs.Prelude.{◌≡◌, ℕ, ◌<◌, ◌≤◌, List, [], ◌∷◌, ◌++◌, All, sum, slice_index}
use Rattle.pd_setup.specs.Settings.{floor_of}
use Rattle.pd_scenario.specs.Plan.{Plan, count, IsPlan, settings_of, force}
use Rattle.pd_run.specs.Order.{EachAfter}
use Rattle.pd_run.specs.Run.{Move, Run, holds_after, contract_powers}

-- a plan has at most one run
abbrev pub OneRun : Type 0
OneRun = (plan : Plan) (a b : List Move) → Run plan a → Run plan b → a ≡ b

-- after these moves no hold is below its port's floor
abbrev pub AreFloored : Plan → List Move → Type 0
AreFloored plan moves = (p : ℕ) → p < count plan → floor_of (settings_of plan p) ≤ slice_index (holds_after plan moves) p

-- after these moves the holds add to at most the budget of a time, and none is below its floor
pub record HoldsFit (plan : Plan) (moves : List Move) (at : ℕ) : Type 0 where
  pub within : sum (holds_after plan moves) ≤ force plan at
  pub floored : AreFloored plan moves

-- a time ends between these moves and the others: these are up to it, and the others later
pub record EndsBetween (at : ℕ) (done rest : List Move) : Type 0 where
  pub up_to : All (λ m. m.due.time ≤ at) done
  pub later : All (λ m. at < m.due.time) rest

-- after these moves the powers of all ports' contracts add to at most the budget of a time: of each contract its voltage
-- times its maximum operating current
abbrev pub ContractsFit : Plan → List Move → ℕ → Type 0
ContractsFit plan moves at = sum (contract_powers plan moves) ≤ force plan at

-- at the end of each instant up to the plan's end, P holds of the moves up to it and of its time
abbrev pub AtEnds : (List Move → ℕ → Type 0) → Plan → List Move → Type 0
AtEnds P plan moves = (done rest : List Move) (at : ℕ) → moves ≡ done ++ rest → EndsBetween at done rest → at ≤ plan.end → P done at

-- The holds fit at the start, and at the end of each instant up to the plan's end, once all moves up to it are made, they
-- fit the budget of then, and so do the contracts. In the middle of an instant they may not; but after each move no hold is
-- below its floor.
pub record IsWithin (plan : Plan) (moves : List Move) : Type 0 where
  pub at_start : HoldsFit plan [] 0
  pub at_ends : AtEnds (HoldsFit plan) plan moves
  pub contracts_at_ends : AtEnds (ContractsFit plan) plan moves
  pub after_each : EachAfter (λ before m. AreFloored plan (before ++ m ∷ [])) [] moves

-- the holds of a run fit at the end of each instant, and so do its contracts
abbrev pub AlwaysFit : Type 0
AlwaysFit = (n : ℕ) (plan : Plan) (moves : List Move) → IsPlan n plan → Run plan moves → IsWithin plan moves

abbrev pub ContractsAlwaysFit : Type 0
ContractsAlwaysFit = (n : ℕ) (plan : Plan) (moves : List Move) → IsPlan n plan → Run plan moves → AtEnds (ContractsFit plan) plan moves
