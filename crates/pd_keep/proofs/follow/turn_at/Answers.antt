use Rattle.std.proofs.Common.{◌<◌, arith, length}
use Rattle.pd_keep.proofs.Course.{passing, own_is_turn, none_left_through}
use Rattle.pd_keep.proofs.Following.{some_kept}
use Rattle.pd_keep.proofs.follow.turn_at.Goals as goal

pub leave-requires : goal.leave-requires
leave-requires g c =
    let r = c.requires.come in
    let plan = c.args.plan.now in
    let at = c.args.course.now.at in
    let inside : at < length c.args.old.now.moves = (c.comes_first.ensures.first c.if-comes_first.true some_kept).0 in (
      omega arith,
      (
        omega arith,
        (
          c.requires.made,
          (
            inside,
            (
              r.0,
              r.1,
              r.2,
              r.3,
              r.4,
              r.5,
              record {
                come = r.6;
                passing = λ k.
                    let first = c.comes_first.ensures.first c.if-comes_first.true k in
                    let numbered = c.requires.numbered at k first.0 in
                    passing g.row.N r.0 r.1 c.args.old.now plan r.2 r.3 r.4 r.5 c.args.meter.now c.args.course.now c.args.live.now at
                    c.args.own.now k r.6 c.requires.here first.0 first.1 c.requires.own numbered.0 numbered.1;
              },
            ),
          ),
        ),
      ),
    )

pub move_own-requires : goal.move_own-requires
move_own-requires g c =
    let r = c.requires.come in (
      omega arith,
      (
        omega arith,
        (
          c.requires.made,
          (
            r.0,
            r.1,
            r.2,
            r.3,
            r.4,
            r.5,
            own_is_turn g.row.N r.0 r.1 c.args.old.now c.args.plan.now r.2 r.3 r.4 r.5 c.args.meter.now c.args.course.now c.args.live.now
                c.in-Some.port c.in-Some.due c.args.own.now some_kept r.6
                c.requires.here
                c.in-Some.is c.requires.own (c.comes_first.ensures.other c.if-comes_first.false),
          ),
        ),
      ),
    )

pub returns-then-comes_first-clause-came : goal.returns-then-comes_first-clause-came
returns-then-comes_first-clause-came g c = λ _ a all past from most first h.
    let plan = c.args.plan.now in
    let at = c.args.course.now.at in
    c.in_ok-own.ensures.came a all past from most first
    (record {
      come = h;
      passing = λ k.
          let comes = c.comes_first.ensures.first c.if-comes_first.true k in
          let numbered = c.requires.numbered at k comes.0 in
          passing g.row.N a all c.args.old.now plan past from most first c.args.meter.now c.args.course.now c.args.live.now at
          c.args.own.now k h c.requires.here comes.0 comes.1 c.requires.own numbered.0 numbered.1;
    })

pub returns-in_default-clause-through : goal.returns-in_default-clause-through
returns-in_default-clause-through g c = λ _ a all past from most first h.
    none_left_through g.row.N a all c.args.old.now c.args.plan.now past from most first c.args.meter.now c.args.course.now c.args.live.now
    c.args.own.now some_kept h c.in_default.is c.requires.own
    (c.comes_first.ensures.other c.if-comes_first.false)

pub returns-clause-came : goal.returns-clause-came
returns-clause-came g c = λ _ a all past from most first h.
    c.in_ok-own-2.ensures.came a all past from most first
    (own_is_turn g.row.N a all c.args.old.now c.args.plan.now past from most first c.args.meter.now c.args.course.now c.args.live.now
    c.in-Some.port c.in-Some.due c.args.own.now some_kept h c.requires.here
    c.in-Some.is c.requires.own (c.comes_first.ensures.other c.if-comes_first.false))
