use Rattle.std.proofs.Common.{◌≡◌, ◌++◌, ◌∷◌, [], List, map, ap, sym, ◌∙◌, subst}
use Rattle.pd_run.specs.Live.{StandsAfter}
use Rattle.pd_run.specs.Run.{Move}
use Rattle.pd_keep.specs.Kept.{RunData, move_of}
use Rattle.pd_keep.specs.Rerun.{Costs, IsSoFar}
use Rattle.pd_keep.specs.Spans.{moves_of}
use Rattle.pd_keep.proofs.Beside.{costs-append}
use Rattle.pd_keep.proofs.Parted.{so_far_push, moves_push}
use Rattle.pd_keep.proofs.rerun.follow_on.Goals as goal

pub returns-clause-so_far : goal.returns-clause-so_far
returns-clause-so_far g c =
    let plan = c.args.plan.now in
    let spans : List RunData = c.args.spans.now in
    let s : RunData = c.in_ok-span.span in
    let r = c.requires.follows in
    let kept : c.push.new.self ≡ spans ++ s ∷ [] =
    c.in_ok-push.ensures ∙ ap (λ (x : RunData). c.lists-lists.new.self ++ x ∷ []) c.in_ok-new.ensures.ok
    ∙ ap (λ (l : List RunData). l ++ s ∷ []) c.lists-lists.ensures in
    let next = c.in_ok-span.ensures.span r.0 r.1 (moves_of spans) c.args.from r.2 in
    subst (λ t. IsSoFar g.row.N plan c.push.new.self t) next.1
    (subst (λ (l : List RunData). IsSoFar g.row.N plan l s.to) (sym kept)
    (so_far_push g.row.N plan spans s c.args.from c.requires.so_far c.requires.soon next.0))

pub returns-clause-stands : goal.returns-clause-stands
returns-clause-stands g c =
    let plan = c.args.plan.now in
    let spans : List RunData = c.args.spans.now in
    let s : RunData = c.in_ok-span.span in
    let r = c.requires.follows in
    let kept : c.push.new.self ≡ spans ++ s ∷ [] =
    c.in_ok-push.ensures ∙ ap (λ (x : RunData). c.lists-lists.new.self ++ x ∷ []) c.in_ok-new.ensures.ok
    ∙ ap (λ (l : List RunData). l ++ s ∷ []) c.lists-lists.ensures in
    subst (λ (l : List RunData). StandsAfter plan (moves_of l) c.follow_span.new.live) (sym kept)
    (subst (λ (l : List Move). StandsAfter plan l c.follow_span.new.live) (sym (moves_push spans s))
    (c.in_ok-span.ensures.stands r.0 r.1 (moves_of spans) c.args.from r.2))

pub returns-clause-cost : goal.returns-clause-cost
returns-clause-cost g c = λ a all olds first h own those cost.
    let plan = c.args.plan.now in
    let spans : List RunData = c.args.spans.now in
    let s : RunData = c.in_ok-span.span in
    let kept : c.push.new.self ≡ spans ++ s ∷ [] =
    c.in_ok-push.ensures ∙ ap (λ (x : RunData). c.lists-lists.new.self ++ x ∷ []) c.in_ok-new.ensures.ok
    ∙ ap (λ (l : List RunData). l ++ s ∷ []) c.lists-lists.ensures in
    let more = c.in_ok-span.ensures.cost a all (moves_of spans) c.args.from olds h own those in
    subst (λ (l : List RunData). Costs a (map move_of olds) plan (moves_of l) first c.follow_span.new.meter) (sym kept)
    (subst (λ (l : List Move). Costs a (map move_of olds) plan l first c.follow_span.new.meter) (sym (moves_push spans s))
    (costs-append a (map move_of olds) plan (moves_of spans) (map move_of s.moves) first c.args.meter.now c.follow_span.new.meter cost
    more))
