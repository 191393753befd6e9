use Rattle.std.proofs.Common.{◌∙◌}
use Rattle.std.proofs.lemmas.Bool.{ne_eqb}
use Rattle.pd_bench.proofs.SessionLemmas.{Fed-byte, Fed-answer}
use Rattle.pd_bench.proofs.bench.take_byte.Goals as goal

pub returns-then-byte-ne10-clause-text : goal.returns-then-byte-ne10-clause-text
returns-then-byte-ne10-clause-text g c = rw c.push.ensures (Fed-byte g.T.Runner.costs g.row.N _ _ _ _ _ (ne_eqb _ 10 c.if-byte-ne10.true))

pub returns-clause-text : goal.returns-clause-text
returns-clause-text g c =
    let ended = c.as_slice.ensures ∙ c.end.ensures in
    let reply = rw ended at c.answer-outcome.ensures.reply in
    rw (c.if-byte-ne10.false, c.clear.ensures) (Fed-answer g.T.Runner.costs g.row.N _ _ _ _ _ _ _ _ _ _ reply c.answer-outcome.ensures.runs)
