use Rattle.std.proofs.Common.{◌≤◌, List, ap, subst, sym}
use Rattle.pd_sink.specs.declared.kinds.Act.{Act}
use Rattle.pd_sink.specs.Record.{SinkRecord}
use Rattle.pd_sink.specs.Acts.{fault_count}
use Rattle.pd_sink.proofs.Faults.{fault_count-acts_of}
use Rattle.pd_sink.proofs.RowTaken.{step-taken, acts-taken}
use Rattle.pd_sink.proofs.engine.Sink.step_into.Goals as goal

pub returns-clause-after : goal.returns-clause-after
returns-clause-after c =
    step-taken c.args.self.now c.arrive.new.self c.args.now c.args.stimulus.now c.self.inside.state c.facts.result
    c.choose-deeds.result.now c.arrive.ensures (ap (λ (r : SinkRecord). r.state) c.self.view_is) c.facts.ensures
    c.choose-deeds.ensures.deeds c.run.new.self c.run.ensures.after

pub returns-clause-acts : goal.returns-clause-acts
returns-clause-acts c =
    acts-taken c.args.self.now c.arrive.new.self c.args.now c.args.stimulus.now c.self.inside.state c.facts.result
    c.choose-deeds.result.now c.arrive.ensures (ap (λ (r : SinkRecord). r.state) c.self.view_is) c.facts.ensures
    c.choose-deeds.ensures.deeds c.run.new.acts.items c.run.ensures.acts

pub returns-clause-few_faults : goal.returns-clause-few_faults
returns-clause-few_faults c = subst (λ (acts : List Act). fault_count acts ≤ 1) (sym (returns-clause-acts c)) (fault_count-acts_of _ _ _)
