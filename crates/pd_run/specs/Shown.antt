-- What a runner stands for.
use Rattle.std.specs.Prelude.{◌≡◌, ℕ, List, [], map, Option, Some, None}
use Rattle.pd_port.specs.declared.entry.Entry.{Entry}
use Rattle.pd_scenario.specs.Plan.{Plan, IsPlan}
use Rattle.pd_run.specs.Run.{Move, Run, shown}
use Rattle.pd_run.specs.Laws.{IsWithin}
use Rattle.pd_run.specs.Sheds.{ShedsLast}
use Rattle.pd_run.specs.Sound.{StaysSound}

-- The moves are the run of the plan. In it what the ports hold is within the budget at the end of each instant, and so are
-- their contracts; each contract is within the offer from which it was requested; and a port that sheds holds its floor
-- alone, without a contract, to the end of that instant.
pub record SafeRun (plan : Plan) (moves : List Move) : Type 0 where
  pub run : Run plan moves
  pub within : IsWithin plan moves
  pub sound : StaysSound plan moves
  pub shed : ShedsLast plan moves

-- these are the entries of the plan's run, which is safe
pub record Shows (plan : Plan) (entries : List (ℕ × Entry)) : Type 0 where
  pub moves : List Move
  pub safe : SafeRun plan moves
  pub entries_are : entries ≡ map shown moves

-- a plan, if there is one, and the entries of its run
pub record Shown : Type 0 where
  pub plan : Option Plan
  pub entries : List (ℕ × Entry)

-- these are the entries of the run of a plan of n ports
pub record IsShown (n : ℕ) (plan : Plan) (entries : List (ℕ × Entry)) : Type 0 where
  pub is_plan : IsPlan n plan
  pub shows : Shows plan entries

-- the entries are those of the plan's run; where there is no plan there are none
abbrev pub AreEntriesOf : ℕ → Option Plan → List (ℕ × Entry) → Type 0
AreEntriesOf n None entries = entries ≡ []
AreEntriesOf n (Some plan) entries = IsShown n plan entries
