use Rattle.std.proofs.lemmas.Result.{err_from_is_err_and}
use Rattle.pd_desk.proofs.DeskLemmas.{line_cut, line_written}
use Rattle.pd_desk.proofs.reasons.tell_reason.Goals as goal

pub returns-in_err-write_all-clause-text : goal.returns-in_err-write_all-clause-text
returns-in_err-write_all-clause-text g c =
    let p = err_from_is_err_and c.from_residual.result c.from_residual.ensures.1 in
    rw (p.1, p.2) (
      c.in_err-write_all.ensures.text.0,
      line_cut _ _ _ _ _ c.as_bytes.ensures.value c.in-Some.ensures c.in_err-write_all.ensures.text.1,
    )

pub returns-clause-text : goal.returns-clause-text
returns-clause-text g c =
    line_written c.write_all-2.result _ _ _ _ _ _ c.as_bytes.ensures.value c.in-Some.ensures
    c.in_ok-write_all.ensures.text c.write_all-2.ensures.text
