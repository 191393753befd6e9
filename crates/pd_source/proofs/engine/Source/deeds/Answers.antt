use Rattle.std.proofs.Common.{ap, ◌∙◌}
use Rattle.pd_source.specs.Record.{SourceData}
use Rattle.pd_source.proofs.RowTaken.{deeds-told}
use Rattle.pd_source.proofs.engine.Source.deeds.Goals as goal

pub returns-clause-value : goal.returns-clause-value
returns-clause-value c =
    c.choose.ensures.deeds
    ∙ deeds-told c.args.self.now.settings c.args.stimulus.now c.args.answer.now (record c.args.self.now.record { sent = c.args.sent })
    c.self.inside.state c.facts.result c.heard_of.result
    (ap (λ (d : SourceData). d.record.state) c.self.view_is) c.facts.ensures c.heard_of.ensures
