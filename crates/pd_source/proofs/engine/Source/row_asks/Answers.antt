use Rattle.pd_source.proofs.RowTaken.{asks-taken}
use Rattle.pd_source.proofs.engine.Source.row_asks.Goals as goal

pub returns : goal.returns
returns c =
    asks-taken c.args.self.now.settings c.args.self.now.record c.args.stimulus.now c.sent_before.result c.makes_offer.result
    c.deeds-deeds.result.now
    c.sent_before.ensures c.deeds-deeds.ensures.value c.makes_offer.ensures
