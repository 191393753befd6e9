use Rattle.std.proofs.Common.{◌≡◌, ◌-◌, Some, ap, sym, ◌∙◌, subst, arith, refl, slice_index_or}
use Rattle.std.proofs.lemmas.Result.{on_ok_weaker}
use Rattle.pd_port.specs.Port.{PortData}
use Rattle.pd_run.specs.Live.{taken_up}
use Rattle.pd_keep.specs.Kept.{KeptData, IsKnown}
use Rattle.pd_keep.proofs.Course.{turned, turn_port}
use Rattle.pd_keep.proofs.follow.leave.Goals as goal

pub take_up-requires : goal.take_up-requires
take_up-requires g c =
    let k : KeptData = c.kept-kept.result.now in
    let v : KeptData = record {
      port = c.port-port.result;
      before = c.before-2.result.now;
      due = c.entry.result.now.due;
      answer = k.answer;
      after = k.after;
      entry = k.entry;
    } in
    let is_kept : v ≡ k = λ i. record {
      port = c.port-port.ensures i;
      before = c.before-2.ensures i;
      due = c.entry.ensures.due i;
      answer = k.answer;
      after = k.after;
      entry = k.entry;
    } in
    let read : v ≡ slice_index_or c.args.old.now.moves c.args.course.now.at v = is_kept ∙ c.kept-kept.ensures v in
    let r = c.requires.next in
    let in_range = turn_port g.row.N r.0 r.1 c.args.old.now c.args.plan.now r.2 r.3 r.4 r.5 c.args.meter.now c.args.course.now
    c.args.live.now v r.6 (sym read) in
    let one = in_range.0 in
    let last = in_range.1 in
    let few = in_range.2 in
    (omega arith, (omega arith, (omega arith, omega arith)))

pub overflow_sub-course : goal.overflow_sub-course
overflow_sub-course g c =
    let k : KeptData = c.kept-kept.result.now in
    let v : KeptData = record {
      port = c.port-port.result;
      before = c.before-2.result.now;
      due = c.entry.result.now.due;
      answer = k.answer;
      after = k.after;
      entry = k.entry;
    } in
    let is_kept : v ≡ k = λ i. record {
      port = c.port-port.ensures i;
      before = c.before-2.ensures i;
      due = c.entry.ensures.due i;
      answer = k.answer;
      after = k.after;
      entry = k.entry;
    } in
    let read : v ≡ slice_index_or c.args.old.now.moves c.args.course.now.at v = is_kept ∙ c.kept-kept.ensures v in
    let r = c.requires.next in
    let in_range = turn_port g.row.N r.0 r.1 c.args.old.now c.args.plan.now r.2 r.3 r.4 r.5 c.args.meter.now c.args.course.now
    c.args.live.now v r.6 (sym read) in
    let one = in_range.0 in
    let last = in_range.1 in
    let few = in_range.2 in
    omega arith

pub bounds-course-port : goal.bounds-course-port
bounds-course-port g c =
    let k : KeptData = c.kept-kept.result.now in
    let v : KeptData = record {
      port = c.port-port.result;
      before = c.before-2.result.now;
      due = c.entry.result.now.due;
      answer = k.answer;
      after = k.after;
      entry = k.entry;
    } in
    let is_kept : v ≡ k = λ i. record {
      port = c.port-port.ensures i;
      before = c.before-2.ensures i;
      due = c.entry.ensures.due i;
      answer = k.answer;
      after = k.after;
      entry = k.entry;
    } in
    let read : v ≡ slice_index_or c.args.old.now.moves c.args.course.now.at v = is_kept ∙ c.kept-kept.ensures v in
    let r = c.requires.next in
    let in_range = turn_port g.row.N r.0 r.1 c.args.old.now c.args.plan.now r.2 r.3 r.4 r.5 c.args.meter.now c.args.course.now
    c.args.live.now v r.6 (sym read) in
    let one = in_range.0 in
    let last = in_range.1 in
    let few = in_range.2 in
    omega arith

pub overflow_sub-port : goal.overflow_sub-port
overflow_sub-port g c =
    let k : KeptData = c.kept-kept.result.now in
    let v : KeptData = record {
      port = c.port-port.result;
      before = c.before-2.result.now;
      due = c.entry.result.now.due;
      answer = k.answer;
      after = k.after;
      entry = k.entry;
    } in
    let is_kept : v ≡ k = λ i. record {
      port = c.port-port.ensures i;
      before = c.before-2.ensures i;
      due = c.entry.ensures.due i;
      answer = k.answer;
      after = k.after;
      entry = k.entry;
    } in
    let read : v ≡ slice_index_or c.args.old.now.moves c.args.course.now.at v = is_kept ∙ c.kept-kept.ensures v in
    let r = c.requires.next in
    let in_range = turn_port g.row.N r.0 r.1 c.args.old.now c.args.plan.now r.2 r.3 r.4 r.5 c.args.meter.now c.args.course.now
    c.args.live.now v r.6 (sym read) in
    let one = in_range.0 in
    let last = in_range.1 in
    let few = in_range.2 in
    omega arith

pub offset_bounds-course-port : goal.offset_bounds-course-port
offset_bounds-course-port g c =
    let k : KeptData = c.kept-kept.result.now in
    let v : KeptData = record {
      port = c.port-port.result;
      before = c.before-2.result.now;
      due = c.entry.result.now.due;
      answer = k.answer;
      after = k.after;
      entry = k.entry;
    } in
    let is_kept : v ≡ k = λ i. record {
      port = c.port-port.ensures i;
      before = c.before-2.ensures i;
      due = c.entry.ensures.due i;
      answer = k.answer;
      after = k.after;
      entry = k.entry;
    } in
    let read : v ≡ slice_index_or c.args.old.now.moves c.args.course.now.at v = is_kept ∙ c.kept-kept.ensures v in
    let r = c.requires.next in
    let in_range = turn_port g.row.N r.0 r.1 c.args.old.now c.args.plan.now r.2 r.3 r.4 r.5 c.args.meter.now c.args.course.now
    c.args.live.now v r.6 (sym read) in
    let one = in_range.0 in
    let last = in_range.1 in
    let few = in_range.2 in
    omega arith

pub bounds-course-port-2 : goal.bounds-course-port-2
bounds-course-port-2 g c =
    let k : KeptData = c.kept-kept.result.now in
    let v : KeptData = record {
      port = c.port-port.result;
      before = c.before-2.result.now;
      due = c.entry.result.now.due;
      answer = k.answer;
      after = k.after;
      entry = k.entry;
    } in
    let is_kept : v ≡ k = λ i. record {
      port = c.port-port.ensures i;
      before = c.before-2.ensures i;
      due = c.entry.ensures.due i;
      answer = k.answer;
      after = k.after;
      entry = k.entry;
    } in
    let read : v ≡ slice_index_or c.args.old.now.moves c.args.course.now.at v = is_kept ∙ c.kept-kept.ensures v in
    let r = c.requires.next in
    let in_range = turn_port g.row.N r.0 r.1 c.args.old.now c.args.plan.now r.2 r.3 r.4 r.5 c.args.meter.now c.args.course.now
    c.args.live.now v r.6 (sym read) in
    let one = in_range.0 in
    let last = in_range.1 in
    let few = in_range.2 in
    omega arith

pub move_own-requires : goal.move_own-requires
move_own-requires g c =
    let k : KeptData = c.kept-kept.result.now in
    let v : KeptData = record {
      port = c.port-port.result;
      before = c.before-2.result.now;
      due = c.entry.result.now.due;
      answer = k.answer;
      after = k.after;
      entry = k.entry;
    } in
    let is_kept : v ≡ k = λ i. record {
      port = c.port-port.ensures i;
      before = c.before-2.ensures i;
      due = c.entry.ensures.due i;
      answer = k.answer;
      after = k.after;
      entry = k.entry;
    } in
    let read : v ≡ slice_index_or c.args.old.now.moves c.args.course.now.at v = is_kept ∙ c.kept-kept.ensures v in
    let r = c.requires.next in
    let in_range = turn_port g.row.N r.0 r.1 c.args.old.now c.args.plan.now r.2 r.3 r.4 r.5 c.args.meter.now c.args.course.now
    c.args.live.now v r.6 (sym read) in
    let one = in_range.0 in
    let last = in_range.1 in
    let few = in_range.2 in
    let on : c.take_up.new.self ≡ taken_up c.args.plan.now c.args.live.now (v.port - 1) v.before =
    c.take_up.ensures ∙ ap (λ (x : PortData). taken_up c.args.plan.now c.args.live.now (v.port - 1) x) c.in_ok-share.ensures in
    let place : IsKnown c.args.old.now.first c.args.old.now.moves (v.port - 1) (Some c.place_before.result) v.before =
    subst (λ (m : KeptData). IsKnown c.args.old.now.first c.args.old.now.moves (m.port - 1) (Some c.place_before.result) m.before)
    (sym read) (c.place_before.ensures v) in (
      omega arith,
      (
        omega arith,
        (
          c.requires.made,
          (
            r.0,
            r.1,
            r.2,
            r.3,
            r.4,
            r.5,
            turned g.row.N r.0 r.1 c.args.old.now c.args.plan.now r.2 r.3 r.4 r.5 c.args.meter.now c.args.course.now _ c.args.live.now
                c.take_up.new.self v c.place_before.result r.6 (sym read) c.requires.inside on refl refl refl refl refl place,
          ),
        ),
      ),
    )

pub returns-clause-came : goal.returns-clause-came
returns-clause-came g c =
    let k : KeptData = c.kept-kept.result.now in
    let v : KeptData = record {
      port = c.port-port.result;
      before = c.before-2.result.now;
      due = c.entry.result.now.due;
      answer = k.answer;
      after = k.after;
      entry = k.entry;
    } in
    let is_kept : v ≡ k = λ i. record {
      port = c.port-port.ensures i;
      before = c.before-2.ensures i;
      due = c.entry.ensures.due i;
      answer = k.answer;
      after = k.after;
      entry = k.entry;
    } in
    let read : v ≡ slice_index_or c.args.old.now.moves c.args.course.now.at v = is_kept ∙ c.kept-kept.ensures v in
    let r = c.requires.next in
    let in_range = turn_port g.row.N r.0 r.1 c.args.old.now c.args.plan.now r.2 r.3 r.4 r.5 c.args.meter.now c.args.course.now
    c.args.live.now v r.6 (sym read) in
    let one = in_range.0 in
    let last = in_range.1 in
    let few = in_range.2 in
    let on : c.take_up.new.self ≡ taken_up c.args.plan.now c.args.live.now (v.port - 1) v.before =
    c.take_up.ensures ∙ ap (λ (x : PortData). taken_up c.args.plan.now c.args.live.now (v.port - 1) x) c.in_ok-share.ensures in
    let place : IsKnown c.args.old.now.first c.args.old.now.moves (v.port - 1) (Some c.place_before.result) v.before =
    subst (λ (m : KeptData). IsKnown c.args.old.now.first c.args.old.now.moves (m.port - 1) (Some c.place_before.result) m.before)
    (sym read) (c.place_before.ensures v) in
    on_ok_weaker c.move_own.result
    (λ came a all past from most first turn.
    came a all past from most first
    (turned g.row.N a all c.args.old.now c.args.plan.now past from most first c.args.meter.now c.args.course.now _ c.args.live.now
    c.take_up.new.self v c.place_before.result turn (sym read) c.requires.inside on refl refl refl refl refl place))
    c.move_own.ensures.came
