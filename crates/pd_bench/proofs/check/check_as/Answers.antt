use Rattle.std.proofs.lemmas.Result.{err_from_is_err_and}
use Rattle.pd_scenario_text.proofs.Read.{refused}
use Rattle.pd_bench.proofs.check.check_as.Goals as goal

pub returns-in_err-_scenario : goal.returns-in_err-_scenario
returns-in_err-_scenario g c =
    let p = err_from_is_err_and c.from_residual.result c.from_residual.ensures.1 in
    rw (p.1, p.2) (λ text is. refused g.row.N text c.args.file _ is c.requires.counts c.in_err-_scenario.ensures)
