-- How many packets a sweep loses.
use Rattle.std.specs.Prelude.{◌≡◌, ℕ, List, length}
use Rattle.pd_port.specs.declared.entry.Entry.{Entry}
use Rattle.pd_run.specs.Shown.{Shows}
use Rattle.pd_scenario.specs.Plans.{plan_of}
use Rattle.pd_scenario.specs.Scenarios.{ScenarioData}
use Rattle.pd_sweep.specs.Choices.{chosen}
use Rattle.pd_sweep.specs.declared.choice.Choice.{Choice}

-- so many packets are chosen of the run of a scenario
abbrev pub HasPackets : ScenarioData → Choice → ℕ → Type 0
HasPackets s choice count = (base : List (ℕ × Entry)) × Shows (plan_of s) base × (count ≡ length (chosen choice base))
