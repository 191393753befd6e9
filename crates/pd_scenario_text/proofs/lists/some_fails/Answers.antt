use Rattle.std.proofs.Common.{◌∙◌, sym, rules, tests}
use Rattle.std.proofs.lemmas.Iterator.{YieldsList-from_slice}
use Rattle.std.proofs.lemmas.Iterator.Search.{any_from_yields_List}
use Rattle.toml.specs.View.{table_view}
use Rattle.pd_scenario_tables.specs.Tables.{fails}
use Rattle.pd_scenario_tables.proofs.Members.{list_any-map}
use Rattle.pd_scenario_text.proofs.lists.some_fails.Goals as goal

pub returns : goal.returns
returns c =
    any_from_yields_List (λ t. fails c.args.fault c.args.version c.args.ports c.args.kind (table_view t.now)) _ _ c.any.result
    c.any.ensures.ran (YieldsList-from_slice c.args.tables.now (cc)) (λ x b q k. search (rules, tests))
    ∙ sym (list_any-map (fails c.args.fault c.args.version c.args.ports c.args.kind) (λ t. table_view t.now) c.args.tables.now)
