-- How the contracts of a run differ from those of another, port by port, over the instants from 0 up to an end.
use Rattle.std.specs.Prelude.{ℕ, ◌+◌, ◌-◌, ◌*◌, nat_lt, not, Bool, List, count_by, map, if◌then◌else◌, Option, Some, None}
use Rattle.std.specs.List.{filter_map, last_or, range_with_len}
use Rattle.pd_objects.specs.declared.contract.Contract.{Contract}
use Rattle.pd_port.specs.declared.entry.ContractChange.{ContractChange}
use Rattle.pd_port.specs.declared.entry.Entry.{Entry}
use Rattle.pd_report.specs.Margins.{up_to}
use Rattle.pd_sweep.specs.Summaries.{contract_left, last_change, left_by}
use Rattle.pd_sweep.specs.Words.{is_same}
use Rattle.pd_sweep.specs.declared.measure.Measure.{Measure}
use Rattle.pd_sweep.specs.declared.measure.Step.{Step}

-- the contract of a port at the end of an instant, the ports being numbered from 0 here: what its last change up to then has left
abbrev pub contract_at : List (ℕ × Entry) → ℕ → ℕ → Option Contract
contract_at moves port t = left_by None (last_change port (up_to t moves))

-- millivolts times milliamperes are microwatts; where no contract stands there are none
abbrev pub power_of : Option Contract → ℕ
power_of None = 0
power_of (Some c) = c.mv * c.ma

-- at how many of the instants from 0 up to an end something is so
abbrev pub instants : ℕ → (ℕ → Bool) → ℕ
instants end is_so = count_by is_so (range_with_len 0 end)

-- until when it is so: one more than the last of these instants at which it is, if it ever is
abbrev pub last_until : ℕ → (ℕ → Bool) → Option ℕ
last_until end is_so = last_or None (filter_map (λ t. if is_so t then Some (t + 1) else None) (range_with_len 0 end))

-- A contract over time beside another: at how many instants its power is less, at how many it is more, and until when it is another.
unfoldable pub measure_by : ℕ → (ℕ → Option Contract) → (ℕ → Option Contract) → Measure
measure_by end old new = record {
  less = instants end (λ t. nat_lt (power_of (new t)) (power_of (old t)));
  more = instants end (λ t. nat_lt (power_of (old t)) (power_of (new t)));
  until = last_until end (λ t. not (is_same (old t) (new t)));
}

-- the contract of a port in one run beside that in another, the base
abbrev pub measure_of : ℕ → List (ℕ × Entry) → List (ℕ × Entry) → ℕ → Measure
measure_of end base moves port = measure_by end (contract_at base port) (contract_at moves port)

-- so for each of eight ports
unfoldable pub measures_of : ℕ → List (ℕ × Entry) → List (ℕ × Entry) → List Measure
measures_of end base moves = map (measure_of end base moves) (range_with_len 0 8)

-- ---- the changes of contracts of a run, by which they are measured

-- a change of an entry before the end
abbrev pub step_with : ℕ → ℕ × Entry → Option ContractChange → Option Step
step_with end move None = None
step_with end move (Some change) =
    if nat_lt move.1.at end then Some (record { at = move.1.at; port = move.0 - 1; left = contract_left change }) else None

abbrev pub step_of : ℕ → ℕ × Entry → Option Step
step_of end move = step_with end move move.1.contract

unfoldable pub steps_of : ℕ → List (ℕ × Entry) → List Step
steps_of end moves = filter_map (step_of end) moves
