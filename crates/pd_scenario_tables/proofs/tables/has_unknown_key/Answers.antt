use Rattle.std.proofs.Common.{rules, tests, not, string_bytes}
use Rattle.std.proofs.lemmas.Iterator.Search.{any_from_yields_List}
use Rattle.std.proofs.lemmas.Iterator.Consumers.{YieldsList-from_rest}
use Rattle.pd_scenario_tables.specs.Tables.{has_key}
use Rattle.pd_scenario_tables.proofs.Members.{list_any-keys}
use Rattle.pd_scenario_tables.proofs.tables.has_unknown_key.Goals as goal

pub returns : goal.returns
returns c =
    rw (list_any-keys (λ k. not (has_key c.args.rules.now k)))
    (any_from_yields_List (λ k. not (has_key c.args.rules.now (string_bytes k))) _ _ c.any.result c.any.ensures.ran
    (YieldsList-from_rest _ c.keys.ensures.rest) (λ x b q k. search (rules, tests)))
