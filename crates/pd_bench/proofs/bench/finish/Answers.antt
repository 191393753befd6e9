use Rattle.std.proofs.Common.{arith, ◌<◌, ◌≡◌, length}
use Rattle.std.proofs.lemmas.Result.{err_from_is_err_and}
use Rattle.pd_bench.proofs.SessionLemmas.{Finish-none, Finish-failed, Finish-line}
use Rattle.pd_bench.proofs.bench.finish.Goals as goal

pub returns-then-is_empty-clause-text : goal.returns-then-is_empty-clause-text
returns-then-is_empty-clause-text g c =
    let none : length c.args.line.now ≡ 0 = grind arith in
    Finish-none g.T.Runner.costs g.row.N _ _ _ _ _ _ none c.write_done.ensures.text

pub returns-in_err-answer-clause-text : goal.returns-in_err-answer-clause-text
returns-in_err-answer-clause-text g c =
    let p = err_from_is_err_and c.from_residual.result c.from_residual.ensures.1 in
    let some : 0 < length c.args.line.now = grind arith in
    let reply = rw c.as_slice.ensures at c.in_err-answer.ensures.reply in
    rw (p.1, p.2) (Finish-failed g.T.Runner.costs g.row.N _ _ _ _ _ _ _ _ some reply)

pub returns-clause-text : goal.returns-clause-text
returns-clause-text g c =
    let some : 0 < length c.args.line.now = grind arith in
    let reply = rw c.as_slice.ensures at c.in_ok-answer.ensures.reply in
    Finish-line g.T.Runner.costs g.row.N _ _ _ _ _ _ _ _ _ some reply c.write_done-2.ensures.text
