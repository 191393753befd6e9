use Rattle.std.proofs.Common.{ℕ, Option, ap, ◌∙◌}
use Rattle.pd_source.specs.Record.{SourceData}
use Rattle.pd_source.specs.Step.{limit_after}
use Rattle.pd_source.proofs.RowTaken.{query-taken, no_query-taken}
use Rattle.pd_source.proofs.engine.Source.row_query.Goals as goal

pub returns-then-makes_offer : goal.returns-then-makes_offer
returns-then-makes_offer c =
    query-taken c.args.self.now.settings c.args.self.now.record c.args.stimulus.now c.sent_before.result c.makes_offer.result
    c.deeds-deeds.result.now c.limit_after.result c.offer_query.result
    c.if-makes_offer.true c.sent_before.ensures c.deeds-deeds.ensures.value c.makes_offer.ensures
    (c.limit_after.ensures ∙ ap (λ (n : Option ℕ). limit_after c.deeds-deeds.result.now c.args.stimulus.now n)
    (ap (λ (d : SourceData). d.record.limit) c.self.view_is))
    c.offer_query.ensures

pub returns-else-makes_offer : goal.returns-else-makes_offer
returns-else-makes_offer c =
    no_query-taken c.args.self.now.settings c.args.self.now.record c.args.stimulus.now c.sent_before.result c.makes_offer.result
    c.deeds-deeds.result.now
    c.if-makes_offer.false c.sent_before.ensures c.deeds-deeds.ensures.value c.makes_offer.ensures
