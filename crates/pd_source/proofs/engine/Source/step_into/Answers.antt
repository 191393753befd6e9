use Rattle.std.proofs.Common.{◌≤◌, List, ap, subst, sym}
use Rattle.pd_source.specs.declared.kinds.Act.{Act}
use Rattle.pd_source.specs.Record.{SourceData}
use Rattle.pd_source.specs.Acts.{fault_count}
use Rattle.pd_source.proofs.Faults.{fault_count-acts_of}
use Rattle.pd_source.proofs.RowTaken.{step-taken, acts-taken}
use Rattle.pd_source.proofs.engine.Source.step_into.Goals as goal

pub returns-clause-after : goal.returns-clause-after
returns-clause-after c =
    step-taken c.args.self.now c.arrive.new.self c.run.new.self c.args.now c.args.stimulus.now c.args.answer.now c.self.inside.sent
    c.deeds-deeds.result.now
    c.arrive.ensures (ap (λ (d : SourceData). d.record.sent) c.self.view_is) c.deeds-deeds.ensures.value c.run.ensures.after

pub returns-clause-acts : goal.returns-clause-acts
returns-clause-acts c =
    acts-taken c.args.self.now c.arrive.new.self c.run.new.acts.items c.args.now c.args.stimulus.now c.args.answer.now c.self.inside.sent
    c.deeds-deeds.result.now
    c.arrive.ensures (ap (λ (d : SourceData). d.record.sent) c.self.view_is) c.deeds-deeds.ensures.value c.run.ensures.acts

pub returns-clause-few_faults : goal.returns-clause-few_faults
returns-clause-few_faults c = subst (λ (acts : List Act). fault_count acts ≤ 2) (sym (returns-clause-acts c))
    (fault_count-acts_of _ _ _ _ _)
