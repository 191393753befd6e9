use Rattle.std.proofs.Common.{◌≡◌, ◌+◌, ◌-◌, ◌≤◌}
use Rattle.std.specs.Prelude.{vec_len, vec_capacity}
use Rattle.pd_desk.specs.Desk.{Back}
use Rattle.pd_desk.specs.Standings.{standing_of}
use Rattle.pd_desk.proofs.steps.steps_back.Given as goal

abbrev pub invariant-loop : goal.invariant-loop
invariant-loop g l = record {
  back : Back l.counter (standing_of l.initial.desk) (standing_of l.desk);
  some : vec_len l.desk.notes.earlier + l.counter ≡ vec_len l.initial.desk.notes.earlier;
  room : vec_len l.desk.notes.later + (l.count - l.counter) ≤ vec_capacity l.desk.notes.later;
}
