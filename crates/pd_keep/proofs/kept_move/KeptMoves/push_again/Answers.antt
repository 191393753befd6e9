use Rattle.std.proofs.Common.{◌-◌, arith, ap, sym, ◌∙◌, subst}
use Rattle.pd_keep.specs.Kept.{KeptData, IsBrief, left_by, marks_kept}
use Rattle.pd_keep.proofs.kept_move.KeptMoves.push_again.Goals as goal

pub push_noted-requires-clause-first : goal.push_noted-requires-clause-first
push_noted-requires-clause-first c =
    let k : KeptData = c.in_ok-share.field-0 in
    let brief = c.brief-brief.ensures k in
    let port = brief.port in
    omega (arith, port, c.requires.first k)

pub push_noted-requires-clause-last : goal.push_noted-requires-clause-last
push_noted-requires-clause-last c =
    let k : KeptData = c.in_ok-share.field-0 in
    let brief = c.brief-brief.ensures k in
    let port = brief.port in
    omega (arith, port, c.requires.last k)

pub push_noted-requires-clause-port : goal.push_noted-requires-clause-port
push_noted-requires-clause-port c =
    let k : KeptData = c.in_ok-share.field-0 in
    (c.brief-brief.ensures k).port ∙ ap (λ (m : KeptData). m.port) (sym (c.in_ok-share.ensures ∙ c.kept.ensures k))

pub push_noted-requires-clause-marks : goal.push_noted-requires-clause-marks
push_noted-requires-clause-marks c =
    let k : KeptData = c.in_ok-share.field-0 in
    c.marks.ensures k ∙ ap marks_kept (sym (c.in_ok-share.ensures ∙ c.kept.ensures k))

pub push_noted-requires-clause-brief : goal.push_noted-requires-clause-brief
push_noted-requires-clause-brief c =
    let k : KeptData = c.in_ok-share.field-0 in
    subst (λ (m : KeptData). IsBrief m c.brief-brief.result) (sym (c.in_ok-share.ensures ∙ c.kept.ensures k)) (c.brief-brief.ensures k)

pub push_noted-requires-clause-goes : goal.push_noted-requires-clause-goes
push_noted-requires-clause-goes c =
    let k : KeptData = c.in_ok-share.field-0 in
    ap (λ (m : KeptData). m.before) (c.in_ok-share.ensures ∙ c.kept.ensures k) ∙ c.requires.goes k
    ∙ ap (λ q. left_by c.args.self.now.first c.args.self.now.moves (q - 1)) (sym (c.brief-brief.ensures k).port)
