use Rattle.std.proofs.Common.{◌∙◌, sym, ap}
use Rattle.std.specs.List.{filter_map}
use Rattle.toml.specs.Data.{as_table}
use Rattle.pd_scenario_tables.proofs.Members.{filter_map-map}
use Rattle.pd_scenario_tables.proofs.tables.tables_at.Goals as goal

pub returns : goal.returns
returns c =
    let is = sym (filter_map-map as_table c.elements_at.result.now) ∙ ap (filter_map as_table) c.elements_at.ensures in
    rw is at c.tables_of.ensures
