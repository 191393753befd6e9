-- What ports hold of the shared budget, where nothing else of them is looked at.
use Rattle.std.specs.Prelude.{◌≡◌, ℕ, ◌+◌, List, Option}
use Rattle.pd_objects.specs.declared.query.Answer.{Answer}
use Rattle.pd_port.specs.declared.entry.Entry.{Entry}
use Rattle.pd_port.specs.Port.{hold}
use Rattle.pd_ledger.specs.Account.{Account}
use Rattle.pd_scenario.specs.Plan.{Plan, settings_of, floors_of}
use Rattle.pd_run.specs.Run.{Move, after, holds_after, GoesOn}

-- the ports hold what these moves leave them with, whatever the budget is
pub record AreHeld (plan : Plan) (past : List Move) (account : Account) : Type 0 where
  pub floors : account.floors ≡ floors_of plan
  pub holds : account.holds ≡ holds_after plan past

-- a move goes on from there; of it these are known: its port, numbered from 1, its entry, its answer, and what its port holds after it
pub record HoldsOn (plan : Plan) (past : List Move) (account : Account) (m : Move) (port : ℕ) (entry : Entry) (answer : Option Answer)
    (left : ℕ) : Type 0 where
  pub held : AreHeld plan past account
  pub goes : GoesOn plan past m
  pub port_is : port ≡ m.port + 1
  pub entry_is : entry ≡ m.entry
  pub answer_is : answer ≡ m.answer
  pub left_is : left ≡ hold (settings_of plan m.port) (after plan m)
