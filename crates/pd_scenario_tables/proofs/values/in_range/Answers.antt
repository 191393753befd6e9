use Rattle.std.proofs.Common.{◌∙◌, sym, ap}
use Rattle.std.specs.List.{list_all}
use Rattle.toml.specs.View.{view}
use Rattle.pd_scenario_tables.specs.Values.{is_supply}
use Rattle.pd_scenario_tables.proofs.Members.{list_all-map}
use Rattle.pd_scenario_tables.proofs.values.in_range.Goals as goal

pub returns-in-Supplies : goal.returns-in-Supplies
returns-in-Supplies c =
    rw c.in-Supplies.is (c.all_are_supplies.ensures ∙ sym (list_all-map is_supply view c.elements_of.result.now)
    ∙ ap (list_all is_supply) c.elements_of.ensures)
