use Rattle.std.proofs.Common.{◌∙◌, arith, inl, sym}
use Rattle.std.proofs.lemmas.Result.{err_from_is_err_and}
use Rattle.pd_desk.proofs.Joins.{Answering-more, DeskCut-line, DeskEnds-stopped}
use Rattle.pd_desk.proofs.LoadedLines.{room_line}
use Rattle.pd_desk.proofs.lines.answer_ended.Goals as goal

pub returns-in_err-take_line-clause-text : goal.returns-in_err-take_line-clause-text
returns-in_err-take_line-clause-text g c =
    let p = err_from_is_err_and c.from_residual.result c.from_residual.ensures.1 in
    let so_far = c.loop-line.invariant in
    rw (p.1, p.2)
    (DeskEnds-stopped _ g.row.N _ _ _ _ _ _ _ _ _ _ _ _ _ _ _ so_far.answering c.in_err-take_line.ensures.line so_far.runs)

pub returns-in_err-answer_desk-clause-text : goal.returns-in_err-answer_desk-clause-text
returns-in_err-answer_desk-clause-text g c =
    let p = err_from_is_err_and c.from_residual-in_err-answer_desk.result c.from_residual-in_err-answer_desk.ensures.1 in
    let took = rw c.if-branch.true at c.in_ok-take_line.ensures.line in
    let r = rw c.as_slice-in-loop-line.ensures at c.in_err-answer_desk.ensures.reply in
    rw (p.1, p.2, r.3.0, r.4)
    (DeskCut-line g.row.N _ _ _ _ _ _ _ _ _ _ _ _ _ _ _ r.0 r.1 c.loop-line.invariant.answering took r.2 r.3.1)

pub loop-line-preserved : goal.loop-line-preserved
loop-line-preserved g c =
    let took = rw c.if-branch.true at c.in_ok-take_line.ensures.line in
    let r = rw c.as_slice-in-loop-line.ensures at c.in_ok-answer_desk.ensures.reply in
    let so_far = c.loop-line.invariant in
    record {
      answering = Answering-more g.row.N _ _ _ _ _ _ _ _ _ _ _ _ _ _ _ _ r.0 r.1 so_far.answering took
          (sym (rw c.as_slice.ensures at c.if-is_quit.ensures)) r.2 r.3 r.4;
      reads = c.in_ok-take_line.ensures.counts.0 ∙ so_far.reads;
      writes = c.in_ok-answer_desk.ensures.counts ∙ so_far.writes;
      runs = c.in_ok-answer_desk.ensures.runs;
      room = room_line _ _ c.loop-line.total _ so_far.room (omega (arith, took.counts)) c.in_ok-answer_desk.ensures.room;
      few = took.few;
      empty = c.clear.ensures;
    }

pub returns-clause-text : goal.returns-clause-text
returns-clause-text g c =
    let took = rw c.if-branch.false at c.in_ok-take_line.ensures.line in
    record { between = _; total = _; total' = _; answering = c.loop-line.invariant.answering; took = inl took }
