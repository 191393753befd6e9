-- A file that is read.
use Rattle.std.specs.Prelude.{List, ℕ, Result, Ok, Err}
use Rattle.toml.specs.Data.{Members}
use Rattle.toml.specs.View.{table_view}
use Rattle.pd_scenario_tables.specs.declared.fault.ScenarioFault.{ScenarioFault}
use Rattle.pd_scenario_tables.specs.declared.fault.ScenarioFault.TheVariants.{Toml, Memory}
use Rattle.pd_scenario_text.specs.Reading.{IsTextOf}
use Rattle.pd_scenario_text.specs.declared.file.ScenarioFile.{ScenarioFile}

-- what its table has
abbrev pub members_of : ScenarioFile → Members
members_of file = table_view file.table

-- What a text reads as before it is looked at: the table that it is the text of; no TOML where it is the text of none; or
-- want of memory.
abbrev pub Parses : List ℕ → Result ScenarioFile ScenarioFault → Type 0
Parses text (Ok file) = IsTextOf text (members_of file)
Parses text (Err Toml) = (t : Members) → IsTextOf text t → ⊥
Parses text (Err Memory) = Unit {0}
Parses text (Err _) = ⊥
