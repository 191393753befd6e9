use Rattle.std.proofs.Common.{◌-◌, ◌≤◌, length}
use Rattle.std.specs.Prelude.{min}
use Rattle.pd_run.specs.Notes.{NoneLeaves}
use Rattle.pd_run.proofs.plain.PlainRunner.next_with.Given as goal

abbrev pub invariant-loop-port : goal.invariant-loop-port
invariant-loop-port g l = record {
  inside : l.at ≤ length l.self.entries;
  past : min l.from (length l.self.entries) ≤ l.at;
  none : NoneLeaves l.note l.self.entries l.from l.at;
}

abbrev pub decreases-loop-port : goal.decreases-loop-port
decreases-loop-port g l = length l.self.entries - l.at
