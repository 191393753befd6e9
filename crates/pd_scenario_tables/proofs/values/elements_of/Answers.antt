use Rattle.std.proofs.Common.{map, ap}
use Rattle.toml.specs.View.{view}
use Rattle.toml.proofs.Views.{view-Array}
use Rattle.pd_scenario_tables.proofs.Members.{elements-items_view}
use Rattle.pd_scenario_tables.proofs.values.elements_of.Goals as goal

pub returns-in-Array : goal.returns-in-Array
returns-in-Array c = rw (c.in-Array.is, view-Array, elements-items_view) (ap (map view) c.deref.ensures.value)
