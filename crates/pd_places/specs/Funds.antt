-- Refusal 9: budgets below what the floors add to.
use Rattle.std.specs.Prelude.{ℕ, ◌&&◌, nat_lt, List, [], ◌++◌, length, codes, decimal, sum_by, if◌then◌else◌}
use Rattle.toml.specs.Data.{Members}
use Rattle.pd_scenario.specs.Limits.{most_ports}
use Rattle.pd_scenario_tables.specs.declared.schema.Version.{Version}
use Rattle.pd_scenario_tables.specs.declared.schema.EventName.{EventName}
use Rattle.pd_scenario_tables.specs.declared.schema.EventName.TheVariants as event
use Rattle.pd_scenario_tables.specs.declared.schema.Key.{Key}
use Rattle.pd_scenario_tables.specs.declared.schema.Key.TheVariants as key
use Rattle.pd_scenario_tables.specs.Schema.{text_of, top_rules, port_rules, event_rules}
use Rattle.pd_scenario_tables.specs.Tables.{number_at, event_at}
use Rattle.pd_scenario_text.specs.FileTables.{Tables}
use Rattle.pd_misfits.specs.Values.{quoted}
use Rattle.pd_misfits.specs.Spots.{SpotData}
use Rattle.pd_misfits.specs.Lines.{line, event_spot}
use Rattle.pd_places.specs.Numbered.{numbered}

-- what the floors of ports add to, in mW
abbrev pub floors_of : List Members → ℕ
floors_of ts = sum_by (number_at port_rules key.Floor) ts

unfoldable pub low_sentence : Key → ℕ → ℕ → List ℕ
low_sentence k mw floors =
    quoted (text_of k) ++ (codes " is " ++ (decimal mw ++ (codes ", below " ++ (decimal floors ++ codes " mW, what the floors add to"))))

-- a budget that is too low; one that is 0, or doesn't stand there, is told for another refusal
abbrev pub low_part : SpotData → Key → ℕ → ℕ → List ℕ
low_part spot k mw floors = if nat_lt 0 mw && nat_lt mw floors then line spot (text_of k) (low_sentence k mw floors) [] else []

-- an event may change the budget
abbrev pub named_low_part : SpotData → ℕ → EventName → Members → List ℕ
named_low_part spot floors event.Budget t = low_part spot key.Mw (number_at (event_rules event.Budget) key.Mw t) floors
named_low_part spot floors (event.OnPort kind) t = []
named_low_part spot floors event.Unknown t = []

abbrev pub event_low_part : SpotData → Version → ℕ → ℕ → Members → List ℕ
event_low_part spot version floors number t =
    named_low_part (event_spot spot version number t) floors (event_at version t) t

-- ---- a file; where it has more ports than there may be, that is told instead

unfoldable pub budgets_text : SpotData → Tables → List ℕ
budgets_text spot d =
    low_part spot key.Budget (number_at top_rules key.Budget d.top) (floors_of d.ports)
    ++ numbered (event_low_part spot d.version (floors_of d.ports)) 1 d.events

abbrev pub funds_text : SpotData → Tables → List ℕ
funds_text spot d = if nat_lt most_ports (length d.ports) then [] else budgets_text spot d
