use Rattle.std.proofs.Common.{◌≡◌, ◌-◌, ◌++◌, ◌∷◌, [], IsTrue, List, map, ap, sym, ◌∙◌, subst, arith, refl}
use Rattle.std.proofs.lemmas.Bool.{eqb-true}
use Rattle.pd_run.specs.Live.{port_at}
use Rattle.pd_keep.specs.declared.rank.Rank.{Rank}
use Rattle.pd_keep.specs.Kept.{KeptData, RunData, NoneStands, held_by, move_of}
use Rattle.pd_keep.proofs.Course.{came_own, own_asked, own_is_next, own_left, own_place}
use Rattle.pd_keep.proofs.follow.move_own.Goals.{then-course, else-course}
use Rattle.pd_keep.proofs.follow.move_own.Goals as goal

pub make-requires : goal.make-requires
make-requires g c =
    let r = c.requires.next in
    let o = r.6 in
    let plan = c.args.plan.now in
    let asked = c.reply_beside-asked.new.self in
    let is = c.reply_beside-asked.ensures.budget in
    let others = r.2 ++ map move_of c.args.course.now.span.moves in
    let but = own_asked g.row.N r.0 r.1 c.args.old.now plan r.2 r.3 r.4 r.5 c.args.meter.now c.args.course.now c.args.live.now asked
    c.args.port c.args.due o is in
    let next = own_is_next g.row.N r.0 r.1 c.args.old.now plan r.2 r.3 r.4 r.5 c.args.meter.now c.args.course.now c.args.live.now asked
    c.args.port c.args.due o is in
    let left = own_place g.row.N r.0 r.1 c.args.old.now plan r.2 r.3 r.4 r.5 c.args.meter.now c.args.course.now c.args.live.now asked
    c.args.port c.args.due o is in
    let plan_is = o.come.beside.is_plan_too in
    let room = but.ports_count ∙ plan_is.settings_count in (
      omega arith,
      (
        omega arith,
        (
          c.requires.made,
          (
            subst (λ (r : Rank). NoneStands r c.args.old.now.moves c.seek-course.result) c.of.ensures c.seek-course.ensures,
            (
              left,
              (
                plan_is,
                (
                  room,
                  ((others, _, next), (c.reply_beside-asked.ensures.query, c.reply_beside-asked.ensures.answer)),
                ),
              ),
            ),
          ),
        ),
      ),
    )

pub push-requires-clause-goes : goal.push-requires-clause-goes
push-requires-clause-goes g c =
    let r = c.requires.next in
    ap (λ (k : KeptData). k.before) c.in_ok-kept.ensures.kept
    ∙ own_left g.row.N r.0 r.1 c.args.old.now c.args.plan.now r.2 r.3 r.4 r.5 c.args.meter.now c.args.course.now c.args.live.now
    c.reply_beside-asked.new.self c.args.port c.args.due r.6 c.reply_beside-asked.ensures.budget

pub returns-clause-came : goal.returns-clause-came
returns-clause-came g c = λ a all past from most first o.
    let kept : List KeptData = c.args.course.now.span.moves in
    let moves_is = ap (λ (x : RunData). x.moves) c.in_ok-push.ensures ∙ ap (λ (z : KeptData). kept ++ z ∷ []) c.in_ok-kept.ensures.kept in
    let held : IsTrue c.if-course.course → IsTrue c.args.course.now.same_holds
    × (held_by (port_at c.make.new.live (c.args.port - 1)) ≡ held_by (port_at c.args.live.now (c.args.port - 1))) =
    elim c.if-course.branch [
      | then-course w ↦ λ known.
          let same : w.hold.result ≡ c.hold-held.result = eqb-true _ _ (sym w.course-is ∙ known) in
          (w.if-course.true, sym w.hold.ensures ∙ same ∙ c.hold-held.ensures)
      | else-course w ↦ λ known. absurd (let none = sym w.if-course.false ∙ sym w.course-is ∙ known in cc)
    ] in
    came_own g.row.N a all c.args.old.now c.args.plan.now past from most first c.args.meter.now c.make.new.meter c.args.course.now _
    c.args.live.now c.reply_beside-asked.new.self c.make.new.live c.args.port c.args.due c.reply_beside-asked.result.answer
    c.in_ok-kept.place o c.reply_beside-asked.ensures.budget c.reply_beside-asked.ensures.answer c.in_ok-kept.ensures.moved refl
    held refl refl (ap (λ (x : RunData). x.first) c.in_ok-push.ensures) moves_is
    c.in_ok-kept.ensures.found c.in_ok-kept.ensures.charges
