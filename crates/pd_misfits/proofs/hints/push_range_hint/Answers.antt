use Rattle.std.proofs.Common.{◌≡◌, ◌++◌, OnOk, map, subst}
use Rattle.toml.specs.View.{view}
use Rattle.toml.proofs.Views.{view-Array}
use Rattle.pd_scenario_tables.proofs.Members.{elements-items_view}
use Rattle.pd_misfits.specs.Hints.{list_hint}
use Rattle.pd_misfits.proofs.hints.push_range_hint.Goals as goal

pub returns-in-Array : goal.returns-in-Array
returns-in-Array c =
    rw (c.in-Array.is, view-Array, elements-items_view)
    (subst (λ vs. OnOk c.push_list_hint.result (c.push_list_hint.new.text.items
    ≡ c.args.text.now.items ++ list_hint c.args.form (map (λ v. view v) vs)))
    c.deref.ensures.value c.push_list_hint.ensures)
