use Rattle.std.proofs.Common.{◌≡◌, ◌+◌, ◌≤◌, drop, length}
use Rattle.pd_source.specs.Acts.{fault_count}
use Rattle.pd_line.specs.PortStep.{source_acts}
use Rattle.pd_line.proofs.port_step.PortStep.source_acts.Given as goal

abbrev pub invariant-loop-act : goal.invariant-loop-act
invariant-loop-act l = record {
  rest : source_acts l.t (drop l.act-index l.acts) l.self ≡ source_acts l.t l.acts l.fn.self;
  faults : length l.self.faults.items + fault_count (drop l.act-index l.acts) ≤ length l.fn.self.faults.items + fault_count l.acts;
}
