use Rattle.std.proofs.lemmas.Result.{err_from_is_err_and}
use Rattle.pd_desk.proofs.Joins.{DeskCut-end, DeskDone-from}
use Rattle.pd_desk.proofs.lines.desk_session.Goals as goal

pub returns-in_err-finish-clause-text : goal.returns-in_err-finish-clause-text
returns-in_err-finish-clause-text g c =
    let p = err_from_is_err_and c.from_residual-in_err-finish.result c.from_residual-in_err-finish.ensures.1 in
    let failed = rw c.as_slice.ensures at c.in_err-finish.ensures.text in
    rw (p.1, p.2, failed.0) (DeskCut-end g.row.N _ _ _ _ _ _ _ _ _ _ _ _ _ c.in_ok-answer_ended.ensures.text failed.1)

pub returns-clause-text : goal.returns-clause-text
returns-clause-text g c =
    let last = rw c.as_slice.ensures at c.in_ok-finish.ensures.text in
    DeskDone-from g.row.N _ _ _ _ _ _ _ _ _ _ _ _ _ c.in_ok-answer_ended.ensures.text last
