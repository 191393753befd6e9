-- What is measured of a run, beside the run without the edits: docs/LAB.md, "Vary". A number may be missing, as the voltage where no
-- contract stands.
use Rattle.std.specs.Prelude.{ℕ, ◌-◌, ◌^◌, ◌*◌, ◌==◌, min, max, List, fold, if◌then◌else◌, Option, None, Some, option_and_then, option_map}
use Rattle.std.specs.Prelude.{slice_get}
use Rattle.pd_objects.specs.declared.contract.Contract.{Contract}
use Rattle.pd_port.specs.declared.entry.ContractChange.{ContractChange}
use Rattle.pd_port.specs.declared.entry.ContractChange.TheVariants.{Made, Lost}
use Rattle.pd_port.specs.declared.entry.Entry.{Entry}
use Rattle.pd_sweep.specs.declared.effect.Effect.{Effect}
use Rattle.pd_sweep.specs.declared.measure.Measure.{Measure}
use Rattle.pd_vary.specs.declared.ask.Ask.{Ask}
use Rattle.pd_vary.specs.declared.ask.What.{What}
use Rattle.pd_vary.specs.declared.ask.What.TheVariants as what
use Rattle.pd_vary.specs.declared.extremes.Extremes.{Extremes}

-- ---- the powers of a port's contracts

-- the power of a contract in microwatts: millivolts times milliamperes
abbrev pub power_of : Contract → ℕ
power_of c = c.mv * c.ma

abbrev pub power_made : ContractChange → Option ℕ
power_made (Made c) = Some (power_of c)
power_made Lost = None

-- the power of a contract that an entry of the port makes
abbrev pub power_on : ℕ → ℕ × Entry → Option ℕ
power_on port move = if move.0 == port then option_and_then power_made move.1.contract else None

-- the least and the greatest of some numbers and one more
abbrev pub widened : Option Extremes → ℕ → Option Extremes
widened None n = Some (record { least = n; greatest = n })
widened (Some e) n = Some (record { least = min e.least n; greatest = max e.greatest n })

-- those of the powers of a port's contracts after one more entry
abbrev pub widened_by : Option Extremes → Option ℕ → Option Extremes
widened_by extremes None = extremes
widened_by extremes (Some power) = widened extremes power

abbrev pub powered : ℕ → Option Extremes → ℕ × Entry → Option Extremes
powered port extremes move = widened_by extremes (power_on port move)

-- the least and the greatest power of all contracts of a port in a run, where it has any
unfoldable pub extremes_of : ℕ → List (ℕ × Entry) → Option Extremes
extremes_of port moves = fold (powered port) None moves

-- ---- what is found of a port, which is numbered from 1, and 0 where a measure is of the charger

-- its contract at the end
abbrev pub contract_at_end : Effect → ℕ → Option Contract
contract_at_end effect port = option_and_then (λ (c : Option Contract). c) (slice_get effect.findings.summary.standing.contracts (port - 1))

-- how its contract differs from that in the run without the edits
abbrev pub measure_of : Effect → ℕ → Option Measure
measure_of effect port = slice_get effect.measures (port - 1)

-- a count, up to the greatest number of 64 bits
abbrev pub capped : ℕ → ℕ
capped n = min n (2 ^ 64 - 1)

-- what is measured of a run with these entries
abbrev pub measured : List (ℕ × Entry) → Effect → ℕ → What → Option ℕ
measured moves effect port what.Voltage = option_map (λ (c : Contract). c.mv) (contract_at_end effect port)
measured moves effect port what.Current = option_map (λ (c : Contract). c.ma) (contract_at_end effect port)
measured moves effect port what.Power = option_map power_of (contract_at_end effect port)
measured moves effect port what.LeastPower = option_map (λ (e : Extremes). e.least) (extremes_of port moves)
measured moves effect port what.GreatestPower = option_map (λ (e : Extremes). e.greatest) (extremes_of port moves)
measured moves effect port what.LessPower = option_map (λ (m : Measure). m.less) (measure_of effect port)
measured moves effect port what.MorePower = option_map (λ (m : Measure). m.more) (measure_of effect port)
measured moves effect port what.DiffersUntil = option_and_then (λ (m : Measure). m.until) (measure_of effect port)
measured moves effect port what.Margin = Some effect.findings.margin.left
measured moves effect port what.LowestAt = Some effect.findings.margin.at
measured moves effect port what.Faults = Some (capped effect.findings.summary.mishaps.faults)
measured moves effect port what.HardResets = Some (capped effect.findings.summary.mishaps.hard_resets)

abbrev pub number_of : List (ℕ × Entry) → Effect → Ask → Option ℕ
number_of moves effect ask = measured moves effect ask.port ask.what

-- ---- the ports that are asked of

abbrev pub later_port : Option ℕ → Ask → Option ℕ
later_port None ask = if ask.port == 0 then None else Some ask.port
later_port (Some port) ask = Some (max port ask.port)

-- the greatest of them
abbrev pub greatest_port : List Ask → Option ℕ
greatest_port asks = fold later_port None asks
