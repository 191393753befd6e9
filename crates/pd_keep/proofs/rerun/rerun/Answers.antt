use Rattle.std.proofs.Common.{◌<◌, ℕ, List, sym, subst}
use Rattle.pd_keep.specs.declared.rerun.Standing.{Standing}
use Rattle.pd_keep.specs.Kept.{RunData}
use Rattle.pd_keep.specs.Rerun.{Costs, IsDone}
use Rattle.pd_keep.specs.Spans.{IsKept, moves_of}
use Rattle.pd_keep.proofs.Beside.{own_old}
use Rattle.pd_keep.proofs.Parted.{kept_whole}
use Rattle.pd_keep.proofs.rerun.rerun.Goals.{in-Apart+in_ok-finish, in_default}
use Rattle.pd_keep.proofs.rerun.rerun.Goals as goal

pub returns-clause-kept : goal.returns-clause-kept
returns-clause-kept g c = elim c.match-standing.branch [
  | in-Apart+in_ok-finish w ↦ subst (λ (l : List RunData). IsKept g.row.N c.args.plan.now l) (sym w.spans-is) w.in_ok-finish.ensures.kept
  | in_default w ↦
      let past : c.args.plan.now.end < c.in_ok-at.at =
      subst (λ (st : Standing g.row.N). IsDone g.row.N c.args.plan.now c.in_ok-at.at st) w.in_default.is c.in_ok-at.ensures.done in
      subst (λ (l : List RunData). IsKept g.row.N c.args.plan.now l) (sym w.spans-is)
      (kept_whole g.row.N c.args.plan.now c.run_beside.new.spans c.in_ok-at.at c.in_ok-at.ensures.so_far past)
]

pub returns-clause-cost : goal.returns-clause-cost
returns-clause-cost g c =
    let old = c.args.old.now in
    let old_spans : List RunData = c.args.old_spans.now in
    let plan = c.args.plan.now in
    let first = c.args.meter.now in
    elim c.match-standing.branch [
      | in-Apart+in_ok-finish w ↦
          let cost : Costs old (moves_of old_spans) plan (moves_of w.finish.new.spans) first w.finish.new.meter =
          w.in_ok-finish.ensures.cost old old_spans first c.in_ok-at.ensures.over (own_old g.row.N old old_spans c.requires.old)
          c.in_ok-at.ensures.cost in
          subst (λ (l : List RunData). Costs old (moves_of old_spans) plan (moves_of l) first c.match-standing.meter) (sym w.spans-is)
          (subst (λ (m : ℕ). Costs old (moves_of old_spans) plan (moves_of w.finish.new.spans) first m) (sym w.meter-is) cost)
      | in_default w ↦
          subst (λ (l : List RunData). Costs old (moves_of old_spans) plan (moves_of l) first c.match-standing.meter) (sym w.spans-is)
          (subst (λ (m : ℕ). Costs old (moves_of old_spans) plan (moves_of c.run_beside.new.spans) first m) (sym w.meter-is)
          c.in_ok-at.ensures.cost)
    ]
