use Rattle.std.proofs.Common.{rules}
use Rattle.std.proofs.lemmas.Result.{err_from_is_err_and}
use Rattle.pd_bench.proofs.SessionLemmas.{SessionEnds-from_part, SessionDone-from, SessionCut-from_end, WritesSession-from}
use Rattle.pd_bench.proofs.bench.session.Goals as goal

pub returns-in_err-take_in-clause-text : goal.returns-in_err-take_in-clause-text
returns-in_err-take_in-clause-text g c =
    let p = err_from_is_err_and c.from_residual.result c.from_residual.ensures.1 in
    let took = rw (c.new.ensures, c.new-line.ensures) at c.in_err-take_in.ensures.text in
    rw (p.1, p.2) (SessionEnds-from_part g.T.Runner.costs g.row.N _ _ _ _ _ _ _ took)

pub returns-in_err-finish-clause-text : goal.returns-in_err-finish-clause-text
returns-in_err-finish-clause-text g c =
    let p = err_from_is_err_and c.from_residual-in_err-finish.result c.from_residual-in_err-finish.ensures.1 in
    let took = rw (c.new.ensures, c.new-line.ensures) at c.in_ok-take_in.ensures.text in
    rw (p.1, p.2, c.in_err-finish.ensures.text.0) (SessionCut-from_end g.T.Runner.costs g.row.N took c.in_err-finish.ensures.text.1)

pub returns-clause-text : goal.returns-clause-text
returns-clause-text g c =
    let took = rw (c.new.ensures, c.new-line.ensures) at c.in_ok-take_in.ensures.text in
    (SessionDone-from g.T.Runner.costs g.row.N took c.in_ok-finish.ensures.text).0

pub returns-clause-cost : goal.returns-clause-cost
returns-clause-cost g c =
    let took = rw (c.new.ensures, c.new-line.ensures) at c.in_ok-take_in.ensures.text in
    let done = SessionDone-from g.T.Runner.costs g.row.N took c.in_ok-finish.ensures.text in
    (done.0, record { first = c.replace.new.meter; first_run = search rules; lines_cost = done.1 })

pub returns-clause-whole : goal.returns-clause-whole
returns-clause-whole g c =
    let took = rw (c.new.ensures, c.new-line.ensures) at c.in_ok-take_in.ensures.text in
    WritesSession-from g.T.Runner.costs g.row.N _ _ _ _ _ _ (SessionDone-from g.T.Runner.costs g.row.N took c.in_ok-finish.ensures.text).0
