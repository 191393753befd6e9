use Rattle.std.proofs.Common.{◌≡◌, ◌-◌, ◌<◌, ◌≤◌, ◌++◌, ⊎_elim, map, sym, ◌∙◌, subst, arith, refl, slice_index_or}
use Rattle.std.proofs.lemmas.Bool.{cases_lt}
use Rattle.pd_keep.specs.Following.{HasCome, followed_to}
use Rattle.pd_keep.specs.Kept.{RunData, left_by, move_of, moves_from}
use Rattle.pd_keep.proofs.Course.{come_budget, come_here, first_answered, first_passed, first_passing, passing_left}
use Rattle.pd_keep.proofs.Following.{both_stir, some_kept}
use Rattle.pd_keep.proofs.follow.pass_on.Goals as goal

pub loop-brief-init : goal.loop-brief-init
loop-brief-init g c =
    let r = c.requires.come in record {
      from_on = omega arith;
      within = r.7.within;
      come = λ a all past from most first meter h. come_here g.row.N a all c.args.old.now c.args.plan.now past from most first meter
          c.args.course.now c.args.live.now h;
      go = λ i k le lt. absurd (omega arith);
      dues = refl;
    }

pub first_followed-requires : goal.first_followed-requires
first_followed-requires g c = record {
  few = λ i k lt.
      let numbered = c.requires.numbered i k lt in
      let few = c.requires.come.7.beside.is_plan_too.few_ports in
      (numbered.0, omega arith);
}

pub passes-requires : goal.passes-requires
passes-requires g c =
    let r = c.requires.come in
    let q = c.in-Some.ensures.some in
    let x = c.loop-brief.invariant in
    let old : RunData = c.args.old.now in
    let course = c.args.course.now in
    let plan = c.args.plan.now in
    let at = c.loop-brief.at in
    let h = x.come r.0 r.1 r.2 r.3 r.4 r.5 r.6 r.7 in (
      omega arith,
      (
        omega arith,
        (
          q.inside,
          (
            q.brief,
            (
              r.2 ++ map move_of (followed_to course old.moves at).span.moves,
              course.away,
              h.whole,
              λ k.
                  first_passing g.row.N r.0 r.1 old plan r.2 r.3 r.4 r.5 r.6 course c.args.live.now c.loop-brief.live at c.args.own.now
                  c.in-Some.brief k h c.requires.numbered q c.requires.own x.dues,
            ),
          ),
        ),
      ),
    )

pub overflow_add-at : goal.overflow_add-at
overflow_add-at g c =
    let q = c.in-Some.ensures.some in
    let inside = q.inside in
    let count = c.len-len.ensures in
    omega arith

pub loop-brief-smaller : goal.loop-brief-smaller
loop-brief-smaller g c =
    let q = c.in-Some.ensures.some in
    let inside = q.inside in
    omega arith

pub loop-brief-preserved : goal.loop-brief-preserved
loop-brief-preserved g c =
    let r = c.requires.come in
    let q = c.in-Some.ensures.some in
    let inside = q.inside in
    let x = c.loop-brief.invariant in
    let from_on = x.from_on in
    let old : RunData = c.args.old.now in
    let course = c.args.course.now in
    let plan = c.args.plan.now in
    let at = c.loop-brief.at in
    record {
      from_on = omega arith;
      within = omega arith;
      come = λ a all past from most first meter begun.
          let h = x.come a all past from most first meter begun in
          let is = first_passing g.row.N a all old plan past from most first meter course c.args.live.now c.loop-brief.live at
          c.args.own.now c.in-Some.brief some_kept h c.requires.numbered q c.requires.own x.dues in
          first_passed g.row.N a all old plan past from most first meter course c.args.live.now c.loop-brief.live c.passes.new.live at
          c.args.own.now c.in-Some.brief some_kept h c.requires.numbered q c.requires.own x.dues x.from_on
          (c.passes.ensures.passed c.if-not-passes.false (past ++ map move_of (followed_to course old.moves at).span.moves) course.away
          h.whole some_kept is
          (first_answered g.row.N a all old plan past from most first meter (followed_to course old.moves at) h.whole c.loop-brief.live
          some_kept h q.inside is)) c.passes.ensures.ports;
      go = λ i k le lt.
          let h = x.come r.0 r.1 r.2 r.3 r.4 r.5 r.6 r.7 in
          ⊎_elim
          (λ (earlier : i < at). x.go i k le earlier)
          (λ (last : at ≤ i).
          let same : i ≡ at = omega arith in
          subst (λ j. (slice_index_or old.moves j k).before
          ≡ left_by course.span.first (course.span.moves ++ moves_from old.moves course.at (j - course.at))
          ((slice_index_or old.moves j k).port - 1)) (sym same)
          (passing_left g.row.N r.0 r.1 old plan r.2 r.3 r.4 r.5 r.6 (followed_to course old.moves at) c.loop-brief.live h.whole
          (slice_index_or old.moves at k) h
          (first_passing g.row.N r.0 r.1 old plan r.2 r.3 r.4 r.5 r.6 course c.args.live.now c.loop-brief.live at c.args.own.now
          c.in-Some.brief k h c.requires.numbered q c.requires.own x.dues)))
          (cases_lt i at);
      dues = c.passes.ensures.dues ∙ x.dues;
    }

pub returns-then-not-passes-clause-passed : goal.returns-then-not-passes-clause-passed
returns-then-not-passes-clause-passed g c = λ a all past from most first meter begun.
    let old : RunData = c.args.old.now in
    let course = c.args.course.now in
    let plan = c.args.plan.now in
    subst (HasCome g.row.N a all old plan past from most first meter (followed_to course old.moves c.loop-brief.at))
    (sym (c.passes.ensures.other c.if-not-passes.true some_kept))
    (come_budget g.row.N a all old plan past from most first meter (followed_to course old.moves c.loop-brief.at) c.loop-brief.live _
    (c.loop-brief.invariant.come a all past from most first meter begun))

pub returns-then-not-passes-clause-stops : goal.returns-then-not-passes-clause-stops
returns-then-not-passes-clause-stops g c = λ brief is.
    both_stir (slice_index_or c.args.old.now.moves c.loop-brief.at some_kept) c.in-Some.brief brief
    (c.in-Some.ensures.some.brief some_kept) (is.brief some_kept) (c.passes.ensures.stirs c.if-not-passes.true)
