use Rattle.std.proofs.Common.{◌≡◌, ⊎_elim, inr, ◌++◌, ◌∷◌, ◌≤◌, ◌<◌, [], List, map, arith, ap, sym, ◌∙◌, subst}
use Rattle.pd_run.specs.Run.{Move}
use Rattle.pd_run.specs.Live.{StandsAfter}
use Rattle.pd_keep.specs.Kept.{move_of}
use Rattle.pd_keep.specs.Kept.{RunData}
use Rattle.pd_keep.specs.Rerun.{IsSoFar, IsNextSpan, Costs}
use Rattle.pd_keep.specs.Spans.{moves_of}
use Rattle.pd_keep.proofs.Beside.{costs-append, those_later}
use Rattle.pd_keep.proofs.Parted.{so_far_push, moves_push}
use Rattle.pd_keep.proofs.Places.{alike_then, placed_first}
use Rattle.pd_keep.proofs.rerun.run_on.Goals as goal

pub loop-at-init : goal.loop-at-init
loop-at-init g c = record {
  so_far = c.requires.so_far;
  stands = c.requires.stands;
  placed = placed_first g.row.N c.args.old.now c.args.alike c.first_places-places.result c.args.live.now
      c.requires.so_far.is_plan.few_ports c.first_places-places.ensures.count c.first_places-places.ensures.are c.requires.known;
  later = omega arith;
  within = omega (arith, c.requires.rising);
  soon = inr c.requires.soon;
  rises = omega arith;
  cost = λ old all first own those h. h;
}

pub run_span-requires : goal.run_span-requires
run_span-requires g c =
    let i = c.loop-at.invariant in
    (omega arith, (omega arith, (c.requires.made, (i.placed, (moves_of c.loop-at.spans, i.stands)))))

pub loop-at-smaller : goal.loop-at-smaller
loop-at-smaller g c =
    let i = c.loop-at.invariant in
    let next : IsNextSpan g.row.N c.args.plan.now (moves_of c.loop-at.spans) c.loop-at.at c.in_ok-span.span =
    c.in_ok-span.ensures.span (moves_of c.loop-at.spans) c.loop-at.at (omega arith) i.stands i.so_far.up in
    let rising = next.rising in
    omega (arith, rising, c.in_ok-span.ensures.ends.0)

pub loop-at-preserved : goal.loop-at-preserved
loop-at-preserved g c =
    let i = c.loop-at.invariant in
    let plan = c.args.plan.now in
    let spans : List RunData = c.loop-at.spans in
    let moves : List Move = moves_of spans in
    let s : RunData = c.in_ok-span.span in
    let at = c.loop-at.at in
    let lt : at < c.args.to = omega arith in
    let soon : at ≤ plan.end =
    ⊎_elim (λ (e : at ≡ c.args.to). absurd (omega arith)) (λ (le : at ≤ plan.end). le) i.soon in
    let next : IsNextSpan g.row.N plan moves at s = c.in_ok-span.ensures.span moves at lt i.stands i.so_far.up in
    let rising = next.rising in
    let kept : c.push.new.self ≡ spans ++ s ∷ [] =
    c.in_ok-push.ensures ∙ ap (λ (x : RunData). c.lists-lists.new.self ++ x ∷ []) c.in_ok-new.ensures.ok
    ∙ ap (λ (l : List RunData). l ++ s ∷ []) c.lists-lists.ensures in
    let to_is : c.to-at.result ≡ s.to = c.to-at.ensures in
    rw kept (rw to_is (record {
      so_far = so_far_push g.row.N plan spans s at i.so_far soon next;
      stands = subst (λ (l : List Move). StandsAfter plan l c.run_span.new.live) (sym (moves_push spans s))
          (c.in_ok-span.ensures.stands moves i.stands);
      placed = c.in_ok-span.ensures.placed;
      later = omega (arith, i.later, rising);
      within = c.in_ok-span.ensures.ends.0;
      soon = c.in_ok-span.ensures.ends.1;
      rises = omega (arith, i.rises, c.run_span.ensures.rises);
      cost = λ old all first own those h.
          let more : Costs old (map move_of all) plan (map move_of s.moves) c.loop-at.meter c.run_span.new.meter =
          c.in_ok-span.ensures.cost old all moves at own
          (those_later all c.args.old.now.moves c.args.from at c.args.to i.later those) i.stands i.so_far.up in
          subst (λ (l : List Move). Costs old (map move_of all) plan l first c.run_span.new.meter) (sym (moves_push spans s))
          (costs-append old (map move_of all) plan moves (map move_of s.moves) first c.loop-at.meter c.run_span.new.meter
          (i.cost old all first own those h) more);
    }))

pub returns-clause-known : goal.returns-clause-known
returns-clause-known g c =
    alike_then g.row.N c.args.old.now c.loop-at.places c.alike_after.result c.loop-at.live c.requires.so_far.is_plan.few_ports
    c.loop-at.invariant.placed c.alike_after.ensures

pub returns-clause-so_far : goal.returns-clause-so_far
returns-clause-so_far g c =
    let i = c.loop-at.invariant in
    let same : c.loop-at.at ≡ c.args.to = omega (arith, i.within) in
    subst (λ t. IsSoFar g.row.N c.args.plan.now c.loop-at.spans t) same i.so_far
