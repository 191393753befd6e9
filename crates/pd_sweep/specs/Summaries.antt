-- What is told of a whole run.
use Rattle.std.specs.Prelude.{◌≡◌, ℕ, ◌-◌, ◌==◌, ◌&&◌, Bool, true, false, List, length, map, count_by, is_some}
use Rattle.std.specs.Prelude.{Option, Some, None, if◌then◌else◌}
use Rattle.std.specs.List.{flat_map, filter_map, last_or, list_any, range_with_len}
use Rattle.std.specs.Option.{option_map_or}
use Rattle.pd_objects.specs.declared.contract.Contract.{Contract}
use Rattle.pd_line.specs.declared.notes.Fault.{Fault}
use Rattle.pd_line.specs.declared.notes.Fault.TheVariants.{HardReset}
use Rattle.pd_port.specs.declared.entry.ContractChange.{ContractChange}
use Rattle.pd_port.specs.declared.entry.ContractChange.TheVariants.{Made, Lost}
use Rattle.pd_port.specs.declared.entry.Entry.{Entry}
use Rattle.pd_scenario.specs.Plan.{Plan}
use Rattle.pd_report.specs.LeastMargin.{IsLeastMargin}
use Rattle.pd_sweep.specs.declared.findings.Findings.{Findings}
use Rattle.pd_sweep.specs.declared.makers.Makers.{Makers}
use Rattle.pd_sweep.specs.declared.summary.Mishaps.{Mishaps}
use Rattle.pd_sweep.specs.declared.summary.Standing.{Standing}
use Rattle.pd_sweep.specs.declared.summary.Summary.{Summary}

-- ---- contracts

-- the contract that a change leaves
abbrev pub contract_left : ContractChange → Option Contract
contract_left (Made c) = Some c
contract_left Lost = None

-- what a change leaves of what stood before it, where there is a change
abbrev pub left_by : Option Contract → Option ContractChange → Option Contract
left_by stood None = stood
left_by stood (Some change) = contract_left change

-- the change of a port's contract in an entry, the ports being numbered from 0 here
abbrev pub change_of : ℕ → ℕ × Entry → Option ContractChange
change_of port move = if move.0 - 1 == port then move.1.contract else None

-- the last change of a port's contract
abbrev pub last_change : ℕ → List (ℕ × Entry) → Option ContractChange
last_change port moves = last_or None (filter_map (change_of port) moves)

-- when an entry changes a contract, where it does
abbrev pub changed_at : ℕ × Entry → Option ℕ
changed_at move = if is_some move.1.contract then Some move.1.at else None

-- the contract of each of eight ports at the end, as its last change has left it, and the time of the last change of any, 0 where there
-- is none
unfoldable pub standing_of : List (ℕ × Entry) → Standing
standing_of moves = record {
  contracts = map (λ port. left_by None (last_change port moves)) (range_with_len 0 8);
  settled = option_map_or (λ at. at) (last_or None (filter_map changed_at moves)) 0;
}

-- ---- faults

abbrev pub is_hard_reset : Fault → Bool
is_hard_reset (HardReset side) = true
is_hard_reset _ = false

-- the faults of a run, in its order
abbrev pub faults_of : List (ℕ × Entry) → List Fault
faults_of moves = flat_map (λ move. move.1.faults.items) moves

-- how many faults there are, and how many of them are Hard Resets that a side begins
unfoldable pub mishaps_of : List (ℕ × Entry) → Mishaps
mishaps_of moves = record { faults = length (faults_of moves); hard_resets = count_by is_hard_reset (faults_of moves) }

-- ---- both
abbrev pub summary_of : List (ℕ × Entry) → Summary
summary_of moves = record { standing = standing_of moves; mishaps = mishaps_of moves }

-- ---- whose contracts are made at an instant

abbrev pub is_made : Option ContractChange → Bool
is_made None = false
is_made (Some (Made c)) = true
is_made (Some Lost) = false

-- an entry of the instant makes a contract
abbrev pub makes : ℕ → Entry → Bool
makes at entry = entry.at == at && is_made entry.contract

-- it does on the port, the ports being numbered from 0 here
abbrev pub makes_on : ℕ → ℕ → ℕ × Entry → Bool
makes_on at port move = move.0 - 1 == port && makes at move.1

-- of each of eight ports whether a contract of it is made at the instant
unfoldable pub makers_at : ℕ → List (ℕ × Entry) → Makers
makers_at at moves = record { ports = map (λ port. list_any (makes_on at port) moves) (range_with_len 0 8) }

-- ---- what the contracts leave of the budget

-- These are found of the run of a plan: its summary, the least margin at the end of an instant with the first such instant, and the
-- ports of which a contract is made at that instant.
pub record AreFindings (plan : Plan) (moves : List (ℕ × Entry)) (findings : Findings) : Type 0 where
  pub summary_is : findings.summary ≡ summary_of moves
  pub margin_is : IsLeastMargin plan moves findings.margin
  pub makers_are : findings.makers ≡ makers_at findings.margin.at moves
