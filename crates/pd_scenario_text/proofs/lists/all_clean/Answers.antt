use Rattle.std.proofs.Common.{◌∙◌, sym, rules, tests}
use Rattle.std.proofs.lemmas.Iterator.{YieldsList-from_slice}
use Rattle.std.proofs.lemmas.Iterator.Search.{all_from_yields_List}
use Rattle.toml.specs.View.{table_view}
use Rattle.pd_scenario_tables.specs.Clean.{is_clean}
use Rattle.pd_scenario_tables.proofs.Members.{list_all-map}
use Rattle.pd_scenario_text.proofs.lists.all_clean.Goals as goal

pub returns : goal.returns
returns c =
    all_from_yields_List (λ t. is_clean c.args.version c.args.ports c.args.kind (table_view t.now)) _ _ c.all.result
    c.all.ensures.ran (YieldsList-from_slice c.args.tables.now (cc)) (λ x b q k. search (rules, tests))
    ∙ sym (list_all-map (is_clean c.args.version c.args.ports c.args.kind) (λ t. table_view t.now) c.args.tables.now)
