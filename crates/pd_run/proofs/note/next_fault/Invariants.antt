use Rattle.std.proofs.Common.{◌-◌, length}
use Rattle.pd_run.specs.declared.note.Note.TheVariants.{Fault}
use Rattle.pd_run.proofs.Searched.{Searched}
use Rattle.pd_run.proofs.note.next_fault.Given as goal

abbrev pub invariant-loop-at : goal.invariant-loop-at
invariant-loop-at l = Searched Fault l.marks l.from l.at

abbrev pub decreases-loop-at : goal.decreases-loop-at
decreases-loop-at l = length l.marks - l.at
