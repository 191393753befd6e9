use Rattle.std.proofs.Common.{◌≡◌, ◌≤◌, ◌-◌, length}
use Rattle.pd_run.specs.Beside.{AreBeside}
use Rattle.pd_keep.specs.Rerun.{IsSoFar, Stands, Costs}
use Rattle.pd_keep.specs.Spans.{moves_of, begins_at}
use Rattle.pd_keep.proofs.rerun.run_beside.Given as goal

abbrev pub invariant-loop-at : goal.invariant-loop-at
invariant-loop-at g l = record {
  so_far : IsSoFar g.row.N l.plan l.spans l.at;
  stands : Stands g.row.N l.old l.old_spans l.plan (moves_of l.spans) l.at l.standing;
  begins : l.at ≡ begins_at l.old_spans l.place;
  beside : AreBeside l.old l.plan l.beside;
  now : l.beside.at ≡ l.at;
  rises : l.fn.meter ≤ l.meter;
  cost : Costs l.old (moves_of l.old_spans) l.plan (moves_of l.spans) l.fn.meter l.meter;
}

abbrev pub decreases-loop-at : goal.decreases-loop-at
decreases-loop-at g l = length l.old_spans - l.place
