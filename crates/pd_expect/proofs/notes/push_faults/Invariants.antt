use Rattle.std.proofs.Common.{◌≡◌, ◌++◌, map, take}
use Rattle.pd_expect.specs.Counted.{note_of}
use Rattle.pd_expect.proofs.notes.push_faults.Given as goal

abbrev pub invariant-loop-fault : goal.invariant-loop-fault
invariant-loop-fault l = l.notes.items ≡ l.initial.notes.items ++ map (note_of l.at l.port) (take l.fault-index l.faults)
