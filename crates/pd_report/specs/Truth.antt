-- That margins tell the truth: what a line says of the contracts is what the ports' contracts are.
use Rattle.std.specs.Prelude.{◌≡◌, ℕ, ◌+◌, ◌<◌, ◌≤◌, nat_le, true, List, ◌++◌, filter, sum, codes, decimal}
use Rattle.pd_port.specs.declared.entry.Entry.{Entry}
use Rattle.pd_port.specs.Budget.{contract_power}
use Rattle.pd_scenario.specs.Plan.{Plan, IsPlan, count, force}
use Rattle.pd_run.specs.Run.{Move, standing, contract_powers}
use Rattle.pd_run.specs.Shown.{Shows}
use Rattle.pd_device.specs.Text.{right}
use Rattle.pd_report.specs.Margins.{power_on, up_to, contracts_at, has_line, instant_text}

-- the moves up to a time
abbrev pub moves_up_to : ℕ → List Move → List Move
moves_up_to t moves = filter (λ m. nat_le m.due.time t) moves

-- the power of the contract in a port's record after the moves up to a time, the ports being numbered from 0 here
abbrev pub recorded_power : Plan → List Move → ℕ → ℕ → ℕ
recorded_power plan moves t p = contract_power (standing plan (moves_up_to t moves) p).state

-- what the contracts in all ports' records take after the moves up to a time
abbrev pub recorded_contracts : Plan → List Move → ℕ → ℕ
recorded_contracts plan moves t = sum (contract_powers plan (moves_up_to t moves))

-- The margin at the end of an instant is true: on each port the entries tell of the contract that its record has; their sum
-- and what is left add to the budget of then; and where a line stands, it shows these two.
pub record TellsTrue (plan : Plan) (moves : List Move) (entries : List (ℕ × Entry)) (t : ℕ) : Type 0 where
  pub on_ports : (p : ℕ) → p < count plan → power_on (up_to t entries) (p + 1) ≡ recorded_power plan moves t p
  pub in_all : contracts_at entries t ≡ recorded_contracts plan moves t
  pub within : contracts_at entries t ≤ force plan t
  pub left : ℕ
  pub adds : recorded_contracts plan moves t + left ≡ force plan t
  pub line : has_line plan entries t ≡ true →
      instant_text plan entries t ≡ right t ++ codes " contracts " ++ decimal (recorded_contracts plan moves t) ++ codes " margin "
      ++ decimal left ++ codes "\n"

-- So it is at each instant of a run, up to its end.
abbrev pub MarginsAreTrue : Type 0
MarginsAreTrue =
    (n : ℕ) (plan : Plan) (entries : List (ℕ × Entry)) → IsPlan n plan → (shows : Shows plan entries) →
    (t : ℕ) → t ≤ plan.end → TellsTrue plan shows.moves entries t
