use Rattle.std.proofs.Common.{◌≡◌, map, take}
use Rattle.pd_show.specs.Lines.{fault_line}
use Rattle.pd_show.specs.Pages.{written}
use Rattle.pd_show.proofs.lines.push_fault_lines.Given as goal

abbrev pub invariant-loop-fault : goal.invariant-loop-fault
invariant-loop-fault l = l.page ≡ written l.form l.fn.page (map (fault_line l.seen) (take l.fault-index l.faults))
