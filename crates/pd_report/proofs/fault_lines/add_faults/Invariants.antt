use Rattle.std.proofs.Common.{◌≡◌, ◌≤◌, ◌+◌, ◌*◌, ◌++◌, length, take}
use Rattle.std.specs.List.{flat_map}
use Rattle.pd_report.specs.FaultLines.{fault_text}
use Rattle.pd_report.proofs.fault_lines.add_faults.Given as goal

abbrev pub invariant-loop-fault : goal.invariant-loop-fault
invariant-loop-fault l = record {
  text : l.page ≡ l.fn.page ++ flat_map (fault_text l.at l.port) (take l.fault-index l.faults);
  room : length l.page ≤ length l.fn.page + 160 * l.fault-index;
}
