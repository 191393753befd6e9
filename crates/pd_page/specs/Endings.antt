-- How a call ended.
use Rattle.std.specs.Prelude.{ℕ}
use Rattle.pd_scenario_tables.specs.declared.fault.ScenarioFault.{ScenarioFault}
use Rattle.pd_scenario_tables.specs.declared.fault.ScenarioFault.TheVariants.{Memory}
use Rattle.pd_scene.specs.declared.scene.SceneFault.{SceneFault}
use Rattle.pd_scene.specs.declared.scene.SceneFault.TheVariants as scene
use Rattle.pd_page.specs.declared.ending.Ending.{Ending}
use Rattle.pd_page.specs.declared.ending.Ending.TheVariants.{Done, Refused, NoSuchPort, NoMemory, TooLong}

-- the number that it is told by
abbrev pub number_of : Ending → ℕ
number_of Done = 0
number_of Refused = 1
number_of NoSuchPort = 2
number_of NoMemory = 3
number_of TooLong = 4

-- a text that has no scenario is refused, or there was no memory for it
abbrev pub scenario_ending : ScenarioFault → Ending
scenario_ending Memory = NoMemory
scenario_ending fault = Refused

-- a job that fails has no memory
abbrev pub scene_ending : SceneFault → Ending
scene_ending (scene.Scenario fault) = scenario_ending fault
scene_ending scene.NoSuchPort = NoSuchPort
scene_ending scene.Lines = Refused
scene_ending (scene.Job fault) = NoMemory
