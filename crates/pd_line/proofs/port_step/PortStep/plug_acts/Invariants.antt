use Rattle.std.proofs.Common.{◌≡◌, drop}
use Rattle.pd_line.specs.PortStep.{plug_acts}
use Rattle.pd_line.proofs.port_step.PortStep.plug_acts.Given as goal

abbrev pub invariant-loop-act : goal.invariant-loop-act
invariant-loop-act l = record {
  rest : plug_acts (drop l.act-index l.acts) l.self ≡ plug_acts l.acts l.fn.self;
  faults : l.self.faults ≡ l.fn.self.faults;
}
