-- The numbers of the refusals of a scenario file.
use Rattle.std.specs.Prelude.{ℕ}
use Rattle.pd_scenario_tables.specs.declared.fault.ScenarioFault.{ScenarioFault}
use Rattle.pd_scenario_tables.specs.declared.fault.ScenarioFault.TheVariants.{Toml, UnknownKey, WrongType, MissingKey, Range, Name}
use Rattle.pd_scenario_tables.specs.declared.fault.ScenarioFault.TheVariants.{Duplicate, Supplies, Floors, UnknownName, Limit, Memory}

abbrev pub number_of : ScenarioFault → ℕ
number_of Toml = 1
number_of UnknownKey = 2
number_of WrongType = 3
number_of MissingKey = 4
number_of Range = 5
number_of Name = 6
number_of Duplicate = 7
number_of Supplies = 8
number_of Floors = 9
number_of UnknownName = 10
number_of Limit = 11
number_of Memory = 12
