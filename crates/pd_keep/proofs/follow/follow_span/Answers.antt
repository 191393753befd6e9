use Rattle.std.proofs.Common.{◌≡◌, ◌++◌, List, map, ap, sym, ◌∙◌, subst, arith, refl}
use Rattle.pd_run.specs.Live.{StandsAfter}
use Rattle.pd_run.specs.StepsLeft.{steps_left}
use Rattle.pd_keep.specs.Following.{HasCome, IsOwnNext}
use Rattle.pd_keep.specs.declared.follow.Course.{Course}
use Rattle.pd_keep.specs.Kept.{KeptData, RunData, move_of}
use Rattle.pd_keep.specs.Rerun.{Costs}
use Rattle.pd_keep.proofs.Course.{come_first, no_places, through_span, known_through, followed_left}
use Rattle.pd_keep.proofs.Shares.{held_first}
use Rattle.pd_keep.proofs.follow.follow_span.Goals.{then-share, else-share}
use Rattle.pd_keep.proofs.follow.follow_span.Goals as goal

pub loop-course-init : goal.loop-course-init
loop-course-init g c = record {
  come = λ a all past from h.
      let fits = c.count-count.ensures.fits in
      subst (λ (z : Course). HasCome g.row.N a all c.args.old.now c.args.plan.now past from (steps_left c.args.plan.now c.args.live.now)
      c.args.meter.now c.args.meter.now z c.set_aside.new.live) (sym c.begun-course.ensures)
      (come_first g.row.N a all c.args.old.now c.args.plan.now past from c.args.meter.now c.args.alike.now c.args.share
      c.if-share.same_holds _ c.in_ok-span.span c.args.live.now c.set_aside.new.live h
      (elim c.if-share.branch [
        | then-share w ↦ λ known.
            held_first g.row.N a all c.args.old.now c.args.plan.now past from c.args.alike.now c.args.share c.args.live.now h
            w.if-share.true (w.hold_alike-same_holds.ensures.0 (sym w.same_holds-is ∙ known))
        | else-share w ↦ λ known. absurd (let none = sym w.if-share.false ∙ sym w.same_holds-is ∙ known in cc)
      ])
      (c.set_aside.ensures c.args.plan.now past c.end-end.ensures.is_plan.settings_count h.stands) c.told-alike
      refl no_places
      (ap (λ (r : RunData). r.first) c.in_ok-span.ensures ∙ c.in_ok-ports.ensures) (ap (λ (r : RunData). r.moves) c.in_ok-span.ensures)
      (omega arith));
  own = subst (λ t. IsOwnNext c.args.plan.now c.set_aside.new.live t c.next_before-own.result) c.to.ensures c.next_before-own.ensures.own;
  rises = omega arith;
}

pub turn-requires : goal.turn-requires
turn-requires g c =
    let r = c.requires.follows in (
      omega arith,
      (
        omega arith,
        (
          c.requires.made,
          (
            c.requires.numbered,
            (
              c.loop-course.invariant.own,
              (
                r.0,
                r.1,
                r.2,
                r.3,
                steps_left c.args.plan.now c.args.live.now,
                c.args.meter.now,
                c.loop-course.invariant.come r.0 r.1 r.2 r.3 r.4,
              ),
            ),
          ),
        ),
      ),
    )

pub loop-course-smaller : goal.loop-course-smaller
loop-course-smaller g c =
    let r = c.requires.follows in
    let came = c.in_ok-turn.ensures.came c.if-branch.true r.0 r.1 r.2 r.3 (steps_left c.args.plan.now c.args.live.now) c.args.meter.now
    (c.loop-course.invariant.come r.0 r.1 r.2 r.3 r.4) in
    let few = came.come.few in
    let more = came.more in
    omega arith

pub returns-clause-span : goal.returns-clause-span
returns-clause-span g c = λ a all past from h.
    let through = c.in_ok-turn.ensures.through c.if-branch.false a all past from (steps_left c.args.plan.now c.args.live.now)
    c.args.meter.now (c.loop-course.invariant.come a all past from h) in
    let is : c.ended.result ≡ record c.turn.new.course.span { to = c.args.old.now.to } =
    c.ended.ensures ∙ ap (λ t. record c.turn.new.course.span { to = t }) c.to-2.ensures in (
      through_span g.row.N a all c.args.old.now c.args.plan.now past from (steps_left c.args.plan.now c.args.live.now) c.args.meter.now
          c.turn.new.meter c.turn.new.course c.turn.new.live c.ended.result through is,
      ap (λ (r : RunData). r.to) is,
    )

pub returns-clause-stands : goal.returns-clause-stands
returns-clause-stands g c = λ a all past from h.
    let most = steps_left c.args.plan.now c.args.live.now in
    let through = c.in_ok-turn.ensures.through c.if-branch.false a all past from most c.args.meter.now
    (c.loop-course.invariant.come a all past from h) in
    let moves = ap (λ (r : RunData). r.moves) c.ended.ensures in
    subst (λ (l : List KeptData). StandsAfter c.args.plan.now (past ++ map move_of l) c.take_up.new.live) (sym moves)
    (c.in_ok-take_up.ensures (past ++ map move_of c.turn.new.course.span.moves) through.come.whole through.come.but (λ p lt away.
    followed_left g.row.N a all c.args.old.now c.args.plan.now past from most c.args.meter.now c.turn.new.meter c.turn.new.course
    c.turn.new.live p through lt away))

pub returns-clause-known : goal.returns-clause-known
returns-clause-known g c =
    let r = c.requires.follows in
    let most = steps_left c.args.plan.now c.args.live.now in
    let through = c.in_ok-turn.ensures.through c.if-branch.false r.0 r.1 r.2 r.3 most c.args.meter.now
    (c.loop-course.invariant.come r.0 r.1 r.2 r.3 r.4) in
    known_through g.row.N r.0 r.1 c.args.old.now c.args.plan.now r.2 r.3 most c.args.meter.now c.turn.new.meter c.turn.new.course
    c.turn.new.live c.take_up.new.live c.stand_alike-alike.result through
    (c.in_ok-take_up.ensures (r.2 ++ map move_of c.turn.new.course.span.moves) through.come.whole through.come.but (λ p lt away.
    followed_left g.row.N r.0 r.1 c.args.old.now c.args.plan.now r.2 r.3 most c.args.meter.now c.turn.new.meter c.turn.new.course
    c.turn.new.live p through lt away))
    c.stand_alike-alike.ensures

pub returns-clause-cost : goal.returns-clause-cost
returns-clause-cost g c = λ a all past from olds h own those.
    let most = steps_left c.args.plan.now c.args.live.now in
    let through = c.in_ok-turn.ensures.through c.if-branch.false a all past from most c.args.meter.now
    (c.loop-course.invariant.come a all past from h) in
    let moves = ap (λ (r : RunData). r.moves) c.ended.ensures in
    subst (λ (l : List KeptData). Costs a (map move_of olds) c.args.plan.now (map move_of l) c.args.meter.now c.turn.new.meter) (sym moves)
    (through.come.cost olds own those)
