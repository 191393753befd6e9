-- The text of margins: what the contracts take of the shared budget over time, and what they leave of it. This product's own
-- format, as docs/FORMATS.md has it under Margins.
use Rattle.std.specs.Prelude.{ℕ, ◌+◌, ◌-◌, ◌*◌, ◌==◌, Bool, ◌||◌, ◌&&◌, not, nat_le, if◌then◌else◌, List, [], ◌++◌, filter, map, sum}
use Rattle.std.specs.Prelude.{Option, None, codes, decimal}
use Rattle.std.specs.List.{flat_map, filter_map, last_or, range_with_len}
use Rattle.std.specs.Option.{option_map_or}
use Rattle.pd_port.specs.declared.entry.ContractChange.{ContractChange}
use Rattle.pd_port.specs.declared.entry.ContractChange.TheVariants.{Made, Lost}
use Rattle.pd_port.specs.declared.entry.Entry.{Entry}
use Rattle.pd_scenario.specs.Plan.{Plan, force}
use Rattle.pd_device.specs.Text.{right}

-- the power in microwatts that a change of a contract leaves: millivolts times milliamperes
abbrev pub power_left : ContractChange → ℕ
power_left (Made c) = c.mv * c.ma
power_left Lost = 0

-- the change of a port's contract in an entry, the ports being numbered from 1
abbrev pub change_on : ℕ → ℕ × Entry → Option ContractChange
change_on port move = if move.0 == port then move.1.contract else None

-- the power of a port's contract after these entries: what the last change of it has left, and 0 where there was none
unfoldable pub power_on : List (ℕ × Entry) → ℕ → ℕ
power_on moves port = option_map_or power_left (last_or None (filter_map (change_on port) moves)) 0

-- the entries up to a time
abbrev pub up_to : ℕ → List (ℕ × Entry) → List (ℕ × Entry)
up_to t moves = filter (λ move. nat_le move.1.at t) moves

-- there are at most so many ports
abbrev pub most_ports : ℕ
most_ports = 8

-- what the contracts of all ports add to at the end of an instant; on a port that isn't there stands none
unfoldable pub contracts_at : List (ℕ × Entry) → ℕ → ℕ
contracts_at moves t = sum (map (power_on (up_to t moves)) (range_with_len 1 most_ports))

-- whether the sum and the budget at the end of an instant are what they were before it
unfoldable pub stays_at : Plan → List (ℕ × Entry) → ℕ → Bool
stays_at plan moves t =
    contracts_at moves (t - 1) == contracts_at moves t && force plan (t - 1) == force plan t

-- a line stands for the instant 0, and for each later one at which the sum or the budget changes
unfoldable pub has_line : Plan → List (ℕ × Entry) → ℕ → Bool
has_line plan moves t = t == 0 || not (stays_at plan moves t)

-- a line: the time, what the contracts take of the budget, and what they leave of it
unfoldable pub margin_text : ℕ → ℕ → ℕ → List ℕ
margin_text t contracts budget =
    right t ++ codes " contracts " ++ decimal contracts ++ codes " margin " ++ decimal (budget - contracts) ++ codes "\n"

-- what an instant adds
unfoldable pub instant_text : Plan → List (ℕ × Entry) → ℕ → List ℕ
instant_text plan moves t = if has_line plan moves t then margin_text t (contracts_at moves t) (force plan t) else []

abbrev pub margins_head : List ℕ
margins_head = codes "= margins\n"

-- a head, and the instants from 0 to the end of the plan in their order
unfoldable pub margins_text : Plan → List (ℕ × Entry) → List ℕ
margins_text plan moves = margins_head ++ flat_map (instant_text plan moves) (range_with_len 0 (plan.end + 1))
