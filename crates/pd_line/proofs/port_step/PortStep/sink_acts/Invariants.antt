use Rattle.std.proofs.Common.{◌≡◌, ◌+◌, ◌≤◌, drop, length}
use Rattle.pd_sink.specs.Acts.{fault_count}
use Rattle.pd_line.specs.PortStep.{sink_acts}
use Rattle.pd_line.proofs.port_step.PortStep.sink_acts.Given as goal

abbrev pub invariant-loop-act : goal.invariant-loop-act
invariant-loop-act l = record {
  rest : sink_acts (drop l.act-index l.acts) l.self ≡ sink_acts l.acts l.fn.self;
  faults : length l.self.faults.items + fault_count (drop l.act-index l.acts) ≤ length l.fn.self.faults.items + fault_count l.acts;
}
