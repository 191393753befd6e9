-- A packet that is lost by its name.
use Rattle.std.specs.Prelude.{◌≡◌, ℕ, zero, suc, List, length, slice_get, if◌then◌else◌, MatchBool}
use Rattle.std.specs.Prelude.{Option, Some, None, Result, Ok, Err}
use Rattle.pd_port.specs.declared.entry.Entry.{Entry}
use Rattle.pd_run.specs.Shown.{Shows}
use Rattle.pd_scenario.specs.Plans.{plan_of}
use Rattle.pd_scenario.specs.Scenarios.{ScenarioData}
use Rattle.pd_scenario.specs.declared.event.ScenarioEvent.{ScenarioEvent}
use Rattle.pd_sweep.specs.Choices.{chosen}
use Rattle.pd_sweep.specs.Trials.{is_hit}
use Rattle.pd_sweep.specs.Variants.{variant}
use Rattle.pd_sweep.specs.declared.choice.Choice.{Choice}
use Rattle.pd_sweep.specs.declared.choice.Loss.TheVariants as harm
use Rattle.pd_sweep.specs.declared.packets.Target.{Target}
use Rattle.pd_sweep.specs.declared.variant.Obstacle.{Obstacle}
use Rattle.pd_expect.specs.declared.lines.Lost.{Lost}
use Rattle.pd_expect.specs.declared.loss.LoseFault.{LoseFault}
use Rattle.pd_expect.specs.declared.loss.LoseFault.TheVariants as fault

-- the packets of the kind on the port
abbrev pub choice_of : Lost → Choice
choice_of lost = record { port = Some lost.port; from = 0; to = 18446744073709551615; kind = Some lost.kind }

-- one of a list, numbered from 1
abbrev pub nth_of : ℕ → List Target → Option Target
nth_of zero targets = None
nth_of (suc before) targets = slice_get targets before

-- the packet that is named, in a run
abbrev pub lost_packet : Lost → List (ℕ × Entry) → Option Target
lost_packet lost moves = nth_of lost.nth (chosen (choice_of lost) moves)

-- the scenario in which it is lost, where an event that none of these is hits it
abbrev pub LosesIn : List ScenarioEvent → Result ScenarioData Obstacle → Target → Result ScenarioData LoseFault → Type 0
LosesIn events (Err obstacle) target outcome = outcome ≡ Err (fault.Barred obstacle)
LosesIn events (Ok after) target outcome =
    (moves : List (ℕ × Entry)) × Shows (plan_of after) moves
    × (outcome ≡ (if is_hit events target moves then Ok after else Err fault.Missed))

-- there are so many packets of the kind on the port
abbrev pub LosesPacket : ℕ → ScenarioData → ℕ → Option Target → Result ScenarioData LoseFault → Type 0
LosesPacket n c count None outcome = outcome ≡ Err (fault.NoPacket count)
LosesPacket n c count (Some target) outcome =
    MatchBool target.disturbed (outcome ≡ Err fault.Disturbed) (LosesIn c.events (variant n c harm.Lost target) target outcome)

-- The scenario with the event that loses the packet that is named in its run, or why there is none.
abbrev pub IsLoss : ℕ → ScenarioData → Lost → Result ScenarioData LoseFault → Type 0
IsLoss n c lost outcome =
    (moves : List (ℕ × Entry)) × Shows (plan_of c) moves
    × LosesPacket n c (length (chosen (choice_of lost) moves)) (lost_packet lost moves) outcome
