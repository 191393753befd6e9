-- How many ports a file has.
use Rattle.std.specs.Prelude.{ℕ, Bool, not, ◌||◌, nat_lt, length, Option, Some, None, Result, Ok, Err, if◌then◌else◌}
use Rattle.std.specs.List.{list_all}
use Rattle.toml.specs.Data.{Data, string, integer, float, boolean, datetime, array, table, Members}
use Rattle.pd_scenario.specs.Limits.{most_ports}
use Rattle.pd_scenario_tables.specs.declared.schema.Key.TheVariants as key
use Rattle.pd_scenario_tables.specs.declared.fault.ScenarioFault.{ScenarioFault}
use Rattle.pd_scenario_tables.specs.declared.fault.ScenarioFault.TheVariants.{WrongType, MissingKey, Limit}
use Rattle.pd_scenario_tables.specs.Values.{is_table, elements}
use Rattle.pd_scenario_tables.specs.Tables.{value_at}

-- how many ports an array of so many elements is
abbrev pub count_of : Bool → ℕ → Result ℕ ScenarioFault
count_of are_tables len =
    if not are_tables then Err WrongType
    else if nat_lt len 1 || nat_lt most_ports len then Err Limit
    else Ok len

abbrev pub count_in : Option Data → Result ℕ ScenarioFault
count_in None = Err MissingKey
count_in (Some (string s)) = Err WrongType
count_in (Some (integer z)) = Err WrongType
count_in (Some (float x)) = Err WrongType
count_in (Some (boolean b)) = Err WrongType
count_in (Some (datetime dt)) = Err WrongType
count_in (Some (array ds)) = count_of (list_all is_table (elements ds)) (length (elements ds))
count_in (Some (table ms)) = Err WrongType

abbrev pub counted : Members → Result ℕ ScenarioFault
counted t = count_in (value_at key.Port t)
