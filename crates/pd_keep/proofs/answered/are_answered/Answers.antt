use Rattle.std.proofs.Common.{◌++◌, List, map, take, arith}
use Rattle.pd_run.specs.Run.{Move}
use Rattle.pd_keep.specs.Kept.{RunData, move_of}
use Rattle.pd_keep.proofs.Asked.{some_at, asked_at, answered_none, answered_more}
use Rattle.pd_keep.proofs.answered.are_answered.Goals as goal

pub loop-i-init : goal.loop-i-init
loop-i-init g c = λ past with.
    let count = c.end-end.ensures.is_plan.settings_count in
    answered_none c.args.plan.now past c.args.span.now.moves c.in_ok-shared.shared
    (c.in_ok-shared.ensures past (λ p lt. with.begun.ports p (omega (arith, count, lt))))

pub is_answered-requires : goal.is_answered-requires
is_answered-requires g c =
    let plan = c.args.plan.now in
    let span : RunData = c.args.span.now in
    let i = c.loop-i.i in
    let past = c.requires.0 in
    let with = c.requires.1 in
    let len = c.len-i-end.ensures in
    let test = c.loop-i-test.true in
    let k = some_at span.moves i (omega (arith, len, test)) in (
      omega arith,
      (
        omega arith,
        (
          past ++ map move_of (take i span.moves),
          k.0,
          asked_at g.row.N plan past span i c.loop-i.shared k.0 with (c.loop-i.invariant past with) k.1,
        ),
      ),
    )

pub loop-i-preserved : goal.loop-i-preserved
loop-i-preserved g c = λ past with.
    let plan = c.args.plan.now in
    let span : RunData = c.args.span.now in
    let i = c.loop-i.i in
    let len = c.len-i-end.ensures in
    let test = c.loop-i-test.true in
    let k = some_at span.moves i (omega (arith, len, test)) in
    let front : List Move = past ++ map move_of (take i span.moves) in
    let so_far = c.loop-i.invariant past with in
    let asked = asked_at g.row.N plan past span i c.loop-i.shared k.0 with so_far k.1 in
    let yes = c.if-not-is_answered.false in
    answered_more plan past span.moves i c.loop-i.shared c.is_answered.new.shared k.0 so_far k.1
    (c.is_answered.ensures.answered yes front k.0 asked) (c.is_answered.ensures.held yes front k.0 asked)
