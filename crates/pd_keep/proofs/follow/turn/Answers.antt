use Rattle.std.proofs.Common.{◌≡◌, ap, sym, subst, arith, length}
use Rattle.std.proofs.lemmas.Result.{IfOk-weaker}
use Rattle.pd_keep.specs.declared.follow.Course.{Course}
use Rattle.pd_keep.specs.Following.{HasCome, HasCameOn}
use Rattle.pd_keep.specs.Kept.{RunData}
use Rattle.pd_keep.proofs.Course.{advanced, come_back, followed_count, followed_here, own_next_on}
use Rattle.pd_keep.proofs.Following.{some_kept}
use Rattle.pd_keep.proofs.follow.turn.Goals as goal

pub pass_on-passed-requires : goal.pass_on-passed-requires
pass_on-passed-requires g c =
    let r = c.requires.come in (
      omega arith,
      (
        omega arith,
        (
          c.requires.numbered,
          (
            c.requires.own,
            (
              r.0,
              r.1,
              r.2,
              r.3,
              r.4,
              r.5,
              c.args.meter.now,
              advanced g.row.N r.0 r.1 c.args.old.now c.args.plan.now r.2 r.3 r.4 r.5 c.args.meter.now c.args.course.now
                  c.pass_over.new.course c.args.live.now some_kept r.6 c.pass_over.ensures.next c.pass_over.ensures.held.0
                  c.pass_over.ensures.rest,
            ),
          ),
        ),
      ),
    )

pub returns-then-passed-course-clause-came : goal.returns-then-passed-course-clause-came
returns-then-passed-course-clause-came g c = λ _ a all past from most first h.
    let old : RunData = c.args.old.now in
    let begun = advanced g.row.N a all old c.args.plan.now past from most first c.args.meter.now c.args.course.now
    c.pass_over.new.course c.args.live.now some_kept h c.pass_over.ensures.next c.pass_over.ensures.held.0
    c.pass_over.ensures.rest in
    let come = c.pass_on-passed.ensures.passed a all past from most first c.args.meter.now begun in
    let count = followed_count c.pass_over.new.course old.moves c.pass_on-passed.result
    c.pass_on-passed.ensures.rising c.pass_on-passed.ensures.inside in
    record {
      come = subst (λ (s : RunData). HasCome g.row.N a all old c.args.plan.now past from most first c.args.meter.now
          (record c.pass_over.new.course { at = c.pass_on-passed.result; span = s }) c.pass_on-passed.new.live)
          (sym c.in_ok-push_all_again.ensures) come;
      more = (let is = ap (λ (s : RunData). length s.moves) c.in_ok-push_all_again.ensures in
          let same = ap (λ (x : Course). length x.span.moves) c.pass_over.ensures.rest in omega arith);
    }

pub returns-then-passed-course-clause-own : goal.returns-then-passed-course-clause-own
returns-then-passed-course-clause-own g c = λ _.
    own_next_on c.args.plan.now c.args.live.now c.pass_on-passed.new.live c.args.old.now.to c.args.own.now
    c.pass_on-passed.ensures.dues c.requires.own

pub turn_at-requires : goal.turn_at-requires
turn_at-requires g c =
    let r = c.requires.come in
    let old : RunData = c.args.old.now in
    let rising = c.pass_on-passed.ensures.rising in
    let here : c.pass_on-passed.result ≡ c.pass_over.new.course.at = omega (arith, c.if-passed-course.false) in (
      omega arith,
      (
        omega arith,
        (
          c.requires.made,
          (
            c.requires.numbered,
            (
              followed_here old.moves c.pass_over.new.course.away c.args.course.now.at c.pass_over.new.course.at
                  c.pass_over.ensures.next,
              (
                own_next_on c.args.plan.now c.args.live.now c.pass_on-passed.new.live old.to c.args.own.now
                    c.pass_on-passed.ensures.dues c.requires.own,
                (
                  r.0,
                  r.1,
                  r.2,
                  r.3,
                  r.4,
                  r.5,
                  come_back g.row.N r.0 r.1 c.args.old.now c.args.plan.now r.2 r.3 r.4 r.5 c.args.meter.now
                      c.pass_over.new.course c.pass_on-passed.new.live c.pass_on-passed.result
                      (c.pass_on-passed.ensures.passed r.0 r.1 r.2 r.3 r.4 r.5 c.args.meter.now
                      (advanced g.row.N r.0 r.1 c.args.old.now c.args.plan.now r.2 r.3 r.4 r.5 c.args.meter.now c.args.course.now
                      c.pass_over.new.course c.args.live.now some_kept r.6 c.pass_over.ensures.next c.pass_over.ensures.held.0
                      c.pass_over.ensures.rest)) here,
                ),
              ),
            ),
          ),
        ),
      ),
    )

pub returns-clause-came : goal.returns-clause-came
returns-clause-came g c =
    let rising = c.pass_on-passed.ensures.rising in
    let here : c.pass_on-passed.result ≡ c.pass_over.new.course.at = omega (arith, c.if-passed-course.false) in
    let same = ap (λ (x : Course). length x.span.moves) c.pass_over.ensures.rest in
    IfOk-weaker c.turn_at.result _ _ (λ more came yes a all past from most first come.
    subst (HasCameOn g.row.N a all c.args.old.now c.args.plan.now past from most first c.turn_at.new.meter c.turn_at.new.course
    c.turn_at.new.live) same (came yes a all past from most first
    (come_back g.row.N a all c.args.old.now c.args.plan.now past from most first c.args.meter.now
    c.pass_over.new.course c.pass_on-passed.new.live c.pass_on-passed.result
    (c.pass_on-passed.ensures.passed a all past from most first c.args.meter.now
    (advanced g.row.N a all c.args.old.now c.args.plan.now past from most first c.args.meter.now c.args.course.now
    c.pass_over.new.course c.args.live.now some_kept come c.pass_over.ensures.next c.pass_over.ensures.held.0
    c.pass_over.ensures.rest)) here))) c.turn_at.ensures.came

pub returns-clause-through : goal.returns-clause-through
returns-clause-through g c =
    let rising = c.pass_on-passed.ensures.rising in
    let here : c.pass_on-passed.result ≡ c.pass_over.new.course.at = omega (arith, c.if-passed-course.false) in
    IfOk-weaker c.turn_at.result _ _ (λ more through no a all past from most first come.
    through no a all past from most first
    (come_back g.row.N a all c.args.old.now c.args.plan.now past from most first c.args.meter.now
    c.pass_over.new.course c.pass_on-passed.new.live c.pass_on-passed.result
    (c.pass_on-passed.ensures.passed a all past from most first c.args.meter.now
    (advanced g.row.N a all c.args.old.now c.args.plan.now past from most first c.args.meter.now c.args.course.now
    c.pass_over.new.course c.args.live.now some_kept come c.pass_over.ensures.next c.pass_over.ensures.held.0
    c.pass_over.ensures.rest)) here)) c.turn_at.ensures.through
