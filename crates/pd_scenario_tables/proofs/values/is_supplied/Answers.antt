use Rattle.std.proofs.Common.{◌∙◌, sym, ap, map}
use Rattle.toml.specs.View.{view}
use Rattle.pd_scenario_tables.specs.Values.{supply_of, are_supplies}
use Rattle.pd_scenario_tables.proofs.Members.{map-twice}
use Rattle.pd_scenario_tables.proofs.values.is_supplied.Goals as goal

pub returns-in-Supplies : goal.returns-in-Supplies
returns-in-Supplies c =
    rw c.in-Supplies.is
    (c.are_supplies.ensures
    ∙ ap are_supplies (sym (map-twice supply_of view c.elements_of.result.now) ∙ ap (map supply_of) c.elements_of.ensures))
