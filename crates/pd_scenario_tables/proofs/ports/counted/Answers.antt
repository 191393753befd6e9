use Rattle.std.proofs.lemmas.List.{length-map}
use Rattle.toml.proofs.Views.{view-Array}
use Rattle.pd_scenario_tables.proofs.Members.{list_all-elements, elements-items_view}
use Rattle.pd_scenario_tables.proofs.ports.counted.Goals as goal

pub returns-in-Some-Array : goal.returns-in-Some-Array
returns-in-Some-Array c =
    let items = rw c.in-Some-Array.items-is at c.deref.ensures.value in
    rw (← c.in-Some-Array.ensures, c.in-Some-Array.field-0-is, view-Array, list_all-elements, elements-items_view, length-map)
    (rw (c.are_tables.ensures, items, c.len.ensures, c.in-Some-Array.items-is, c.in-Some-Array.items.ok.0) at c.count_of.ensures)
