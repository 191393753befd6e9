use Rattle.std.proofs.Common.{◌∙◌, ap}
use Rattle.std.specs.List.{list_any}
use Rattle.pd_scenario_tables.specs.declared.fault.ScenarioFault.TheVariants.{Supplies}
use Rattle.pd_scenario_tables.specs.declared.schema.TableKind.TheVariants.{Port}
use Rattle.pd_scenario_tables.specs.Seen.{views}
use Rattle.pd_scenario_tables.specs.Tables.{fails}
use Rattle.pd_scenario_text.specs.Document.{seen}
use Rattle.pd_scenario_text.proofs.Nowhere.{ports_alone}
use Rattle.pd_scenario_text.proofs.document.Document.has_bad_supplies.Goals as goal

pub returns : goal.returns
returns c =
    let d = seen c.args.self.now in
    c.some_fails.ensures ∙ ap (λ ts. list_any (fails Supplies d.version c.args.ports Port) (views ts)) c.deref.ensures.value
    ∙ ports_alone c.args.ports d
