-- A move that is asked again for its answer.
use Rattle.std.specs.Prelude.{◌≡◌, ℕ, List, Some, slice_get}
use Rattle.pd_ledger.specs.Account.{Account}
use Rattle.pd_scenario.specs.Plan.{Plan}
use Rattle.pd_run.specs.Held.{AreHeld}
use Rattle.pd_run.specs.Run.{Move, GoesOn}
use Rattle.pd_keep.specs.Kept.{KeptData, move_of, IsOwn}

-- after these moves the ports hold so much of the shared budget, and the kept move at this place goes on from there
pub record IsAsked (plan : Plan) (past : List Move) (account : Account) (moves : List KeptData) (i : ℕ) (k : KeptData) : Type 0 where
  pub held : AreHeld plan past account
  pub there : slice_get moves i ≡ Some k
  pub own : IsOwn plan k
  pub goes : GoesOn plan past (move_of k)
