use Rattle.std.proofs.Common.{◌∙◌, ap}
use Rattle.std.specs.List.{list_all}
use Rattle.toml.proofs.Views.{view-Array}
use Rattle.pd_scenario_tables.proofs.Members.{list_all-elements}
use Rattle.pd_scenario_tables.proofs.values.has_type.Goals as goal

pub returns-in-Array : goal.returns-in-Array
returns-in-Array c =
    rw (c.in-Supplies.is, c.in-Array.is, view-Array, list_all-elements) (c.are_pairs.ensures ∙ ap (list_all _) c.deref.ensures.value)

pub returns-in-Array-value : goal.returns-in-Array-value
returns-in-Array-value c =
    rw (c.in-Tables.is, c.in-Array-value.is, view-Array, list_all-elements)
    (c.are_tables.ensures ∙ ap (list_all _) c.deref-in-Array-value.ensures.value)
