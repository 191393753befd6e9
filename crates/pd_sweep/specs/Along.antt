-- Going along a run: what is known after one more entry.
use Rattle.std.specs.Prelude.{◌≡◌, ℕ, ◌+◌, ◌-◌, ◌≤◌, ◌<◌, ◌==◌, ◌&&◌, min, Bool, true, false, List, [], ◌++◌, fold, length, count_by}
use Rattle.std.specs.Prelude.{Contains, replicate, slice_set, Option, Some, None, if◌then◌else◌}
use Rattle.std.specs.List.{cons_option}
use Rattle.pd_port.specs.declared.entry.ContractChange.{ContractChange}
use Rattle.pd_port.specs.declared.entry.Entry.{Entry}
use Rattle.pd_setup.specs.Events.{EventData, PortEventKind}
use Rattle.pd_setup.specs.declared.event.EventKind.TheVariants.{Lose, Damage}
use Rattle.pd_setup.specs.declared.event.Happening.{Happening}
use Rattle.pd_setup.specs.declared.event.Happening.TheVariants as happening
use Rattle.pd_scenario.specs.Plan.{Plan, count, script_of}
use Rattle.pd_scenario.specs.Events.{ScenarioEventKind}
use Rattle.pd_scenario.specs.declared.event.ScenarioEvent.{ScenarioEvent}
use Rattle.pd_scenario.specs.declared.event.ScenarioHappening.{ScenarioHappening}
use Rattle.pd_scenario.specs.declared.event.ScenarioHappening.TheVariants.{OnPort, Budget}
use Rattle.pd_sweep.specs.Measures.{step_of}
use Rattle.pd_sweep.specs.Summaries.{contract_left, is_hard_reset, makes}
use Rattle.pd_sweep.specs.declared.makers.Makers.{Makers}
use Rattle.pd_sweep.specs.declared.measure.Step.{Step}
use Rattle.pd_sweep.specs.declared.summary.Mishaps.{Mishaps}
use Rattle.pd_sweep.specs.declared.summary.Standing.{Standing}
use Rattle.pd_sweep.specs.declared.sets.Packets.{Packets}
use Rattle.pd_sweep.specs.declared.sets.Packets.TheVariants.{One, Two, Three}

-- before the run no port has a contract
abbrev pub nothing_stands : Standing
nothing_stands = record { contracts = replicate 8 None; settled = 0 }

-- a change of a port's contract, the ports being numbered from 1, and its time
abbrev pub changed : Standing → ℕ → ℕ → Option ContractChange → Standing
changed s port at None = s
changed s port at (Some change) = record { contracts = slice_set s.contracts (port - 1) (contract_left change); settled = at }

abbrev pub stands_after : Standing → ℕ × Entry → Standing
stands_after s move = changed s move.0 move.1.at move.1.contract

-- the changes of contracts before an end, and that of one more entry
abbrev pub gathered : ℕ → List Step → ℕ × Entry → List Step
gathered end steps move = steps ++ cons_option (step_of end move) []

-- before the run nothing has gone wrong
abbrev pub no_mishap : Mishaps
no_mishap = record { faults = 0; hard_resets = 0 }

abbrev pub mishaps_after : Mishaps → ℕ × Entry → Mishaps
mishaps_after m move = record {
  faults = m.faults + length move.1.faults.items;
  hard_resets = m.hard_resets + count_by is_hard_reset move.1.faults.items;
}

-- before the run nobody has made a contract
abbrev pub nobody : Makers
nobody = record { ports = replicate 8 false }

-- an entry of the instant that makes a contract marks its port, the ports being numbered from 1
abbrev pub makers_after : ℕ → Makers → ℕ × Entry → Makers
makers_after at m move = if makes at move.1 then record { ports = slice_set m.ports (move.0 - 1) true } else m

-- a kind of event loses or damages a packet
abbrev pub disturbs : ScenarioEventKind → Bool
disturbs Lose = true
disturbs (Damage damage) = true
disturbs _ = false

-- an event at a port does so
abbrev pub disturbs_kind : PortEventKind → Bool
disturbs_kind Lose = true
disturbs_kind (Damage harm) = true
disturbs_kind _ = false

abbrev pub disturbs_happening : Happening → Bool
disturbs_happening (happening.Port id kind) = disturbs_kind kind
disturbs_happening happening.Budget = false

-- the time of the first of some packets
abbrev pub earliest_of : Packets → ℕ
earliest_of (One a) = a.at
earliest_of (Two a b) = min a.at b.at
earliest_of (Three a b c) = min a.at (min b.at c.at)

-- no event of a port before a time does so, the ports being numbered from 1
abbrev pub IsQuietBefore : Plan → ℕ → ℕ → Type 0
IsQuietBefore plan port first =
    (p : ℕ) (e : EventData) → p < count plan → p + 1 ≡ port → Contains (script_of plan p) e → disturbs_happening e.happening ≡ true
    → first ≤ e.at

-- an event does so to a packet of the port
abbrev pub disturbs_on : ℕ → ScenarioHappening → Bool
disturbs_on port (OnPort other kind) = other == port && disturbs kind
disturbs_on port (Budget mw) = false

abbrev pub is_disturbance : ℕ → ScenarioEvent → Bool
is_disturbance port e = disturbs_on port e.happening

-- the time of the first of the events that do, or this time where none is before it
abbrev pub earlier_disturbance : ℕ → ℕ → ScenarioEvent → ℕ
earlier_disturbance port first e = if is_disturbance port e then min first e.at else first

abbrev pub first_disturbance : List ScenarioEvent → ℕ → ℕ → ℕ
first_disturbance events port at = fold (earlier_disturbance port) at events
