use Rattle.std.proofs.Common.{arith, ◌<◌, ◌≡◌, length}
use Rattle.std.proofs.lemmas.Result.{err_from_is_err_and}
use Rattle.pd_desk.proofs.Joins.{Finish-none, Finish-failed, Finish-line}
use Rattle.pd_desk.proofs.lines.finish.Goals as goal

pub returns-then-is_empty-clause-text : goal.returns-then-is_empty-clause-text
returns-then-is_empty-clause-text g c =
    let none : length c.args.line.now ≡ 0 = grind arith in Finish-none g.row.N _ _ _ _ _ _ none c.write_done.ensures.text

pub returns-in_err-answer_desk-clause-text : goal.returns-in_err-answer_desk-clause-text
returns-in_err-answer_desk-clause-text g c =
    let p = err_from_is_err_and c.from_residual.result c.from_residual.ensures.1 in
    let some : 0 < length c.args.line.now = grind arith in
    let r = c.in_err-answer_desk.ensures.reply in
    rw (p.1, p.2) (Finish-failed g.row.N _ _ _ _ _ _ _ r.0 r.1 _ some r.2 r.3 r.4)

pub returns-clause-text : goal.returns-clause-text
returns-clause-text g c =
    let some : 0 < length c.args.line.now = grind arith in
    let r = c.in_ok-answer_desk.ensures.reply in
    Finish-line g.row.N _ _ _ _ _ _ _ _ _ r.0 r.1 some r.2 r.3 r.4 c.write_done-2.ensures.text
