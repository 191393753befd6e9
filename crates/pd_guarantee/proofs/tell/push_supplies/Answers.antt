use Rattle.std.proofs.Common.{◌+◌, ◌++◌, ◌∙◌, ap}
use Rattle.std.proofs.lemmas.List.{get_or_default}
use Rattle.pd_objects.specs.Supply.{SupplyData, least}
use Rattle.pd_text.specs.Texts.{line_of}
use Rattle.pd_guarantee.specs.declared.bounds.SupplyBounds.{SupplyBounds}
use Rattle.pd_guarantee.specs.Bounds.{supply_bounds}
use Rattle.pd_guarantee.specs.Tellings.{supply_line, supply_pieces}
use Rattle.pd_guarantee.proofs.Lines.{written_more}
use Rattle.pd_guarantee.proofs.tell.push_supplies.Goals as goal

pub loop-i-preserved : goal.loop-i-preserved
loop-i-preserved c =
    let i = c.loop-i.i in
    let form = c.args.form in
    let port = c.args.port in
    let supplies = c.args.supplies.now in
    let own = c.index-supplies-i.is ∙ get_or_default supplies i c.index-supplies-i.result least c.loop-i-test.true in
    let bounds = c.supply_bounds-bounds.ensures ∙ ap (λ (s : SupplyData). supply_bounds c.args.free (i + 1) s) own in
    written_more (supply_line form port c.args.free supplies) i c.args.text.now.items c.loop-i.text.items _ c.loop-i.invariant
    (c.in_ok-push_supply.ensures
    ∙ ap (λ (b : SupplyBounds). c.loop-i.text.items ++ line_of form (supply_pieces port b)) bounds)
