use Rattle.std.proofs.Common.{◌/◌, ◌*◌, ◌≡◌, ◌+◌, [], List, All, ap, sym, subst, arith}
use Rattle.std.proofs.Common.{false, replicate}
use Rattle.pd_run.proofs.Cut.{All-nil}
use Rattle.pd_keep.specs.Kept.{KeptData, IsMade}
use Rattle.pd_keep.specs.Kept.{RunData}
use Rattle.pd_keep.specs.Rerun.{IsSoFar, AreThose, BeginsWithMarked}
use Rattle.pd_keep.specs.Spans.{kept_of_spans}
use Rattle.pd_keep.proofs.Beside.{over_those}
use Rattle.pd_keep.proofs.Parted.{kept_whole}
use Rattle.pd_keep.proofs.Places.{unmarked}
use Rattle.pd_keep.proofs.rerun.finish.Goals as goal

pub run_on-requires : goal.run_on-requires
run_on-requires g c =
    let none : c.in_ok-nothing.nothing.moves ≡ [] = ap (λ (r : RunData). r.moves) c.in_ok-nothing.ensures in
    let made : All IsMade c.in_ok-nothing.nothing.moves = subst (λ (l : List KeptData). All IsMade l) (sym none) (All-nil IsMade) in
    let few = c.requires.so_far.is_plan.few_ports in
    let known : BeginsWithMarked g.row.N c.in_ok-nothing.nothing c.args.live.now (replicate 8 false) =
    λ p lt yes. absurd (unmarked p (omega arith) yes) in
    (omega arith, (omega arith, (made, (omega arith, (omega arith, (known, (c.requires.so_far, c.requires.stands)))))))

pub returns-then-end-from-clause-kept : goal.returns-then-end-from-clause-kept
returns-then-end-from-clause-kept g c = kept_whole g.row.N c.args.plan.now c.args.spans.now c.args.from c.requires.so_far (omega arith)

pub returns-clause-kept : goal.returns-clause-kept
returns-clause-kept g c =
    let so_far : IsSoFar g.row.N c.args.plan.now c.run_on.new.spans ((c.args.plan.now.end / 131072 + 1) * 131072) =
    subst (λ e. IsSoFar g.row.N c.args.plan.now c.run_on.new.spans ((e / 131072 + 1) * 131072)) c.end-end.ensures.end
    c.in_ok-run_on.ensures.so_far in
    kept_whole g.row.N c.args.plan.now c.run_on.new.spans ((c.args.plan.now.end / 131072 + 1) * 131072) so_far (omega arith)

pub returns-clause-cost : goal.returns-clause-cost
returns-clause-cost g c = λ old old_spans first over own so_far.
    let none : c.in_ok-nothing.nothing.moves ≡ [] = ap (λ (r : RunData). r.moves) c.in_ok-nothing.ensures in
    let those : AreThose (kept_of_spans old_spans) c.args.from ((c.end-end.result / 131072 + 1) * 131072) c.in_ok-nothing.nothing.moves =
    subst (λ (l : List KeptData). AreThose (kept_of_spans old_spans) c.args.from ((c.end-end.result / 131072 + 1) * 131072) l) (sym none)
    (over_those old_spans c.args.from ((c.end-end.result / 131072 + 1) * 131072) (over (omega arith))) in
    c.in_ok-run_on.ensures.cost old (kept_of_spans old_spans) first own those so_far
