use Rattle.std.proofs.Common.{◌≡◌, ◌++◌, OnOk, map, subst}
use Rattle.toml.specs.View.{view}
use Rattle.toml.proofs.Views.{view-Array}
use Rattle.pd_scenario_tables.proofs.Members.{elements-items_view}
use Rattle.pd_misfits.specs.Supplies.{supplies_text}
use Rattle.pd_misfits.proofs.table.push_shown.Goals as goal

pub returns-in-Supplies-Array : goal.returns-in-Supplies-Array
returns-in-Supplies-Array c =
    rw (c.in-Supplies-Array.is-0, c.in-Supplies-Array.is-1, view-Array, elements-items_view)
    (subst (λ vs. OnOk c.push_supplies.result (c.push_supplies.new.text.items
    ≡ c.args.text.now.items ++ supplies_text c.args.fault (map (λ v. view v) vs)))
    c.deref.ensures.value c.push_supplies.ensures)
