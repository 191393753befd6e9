use Rattle.std.proofs.Common.{◌∙◌, sym, rules, tests}
use Rattle.std.proofs.lemmas.Iterator.{YieldsList-from_slice}
use Rattle.std.proofs.lemmas.Iterator.Search.{any_from_yields_List}
use Rattle.toml.specs.View.{table_view}
use Rattle.pd_scenario_tables.specs.Tables.{event_fails}
use Rattle.pd_scenario_tables.proofs.Members.{list_any-map}
use Rattle.pd_scenario_text.proofs.lists.some_event_fails.Goals as goal

pub returns : goal.returns
returns c =
    any_from_yields_List (λ t. event_fails c.args.fault c.args.version c.args.ports (table_view t.now)) _ _ c.any.result c.any.ensures.ran
    (YieldsList-from_slice c.args.tables.now (cc)) (λ x b q k. search (rules, tests))
    ∙ sym (list_any-map (event_fails c.args.fault c.args.version c.args.ports) (λ t. table_view t.now) c.args.tables.now)
