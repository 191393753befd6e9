use Rattle.std.proofs.Common.{refl}
use Rattle.pd_bench.proofs.Paid.{run_costs}
use Rattle.pd_scenario_text.proofs.Read.{accepted, refused}
use Rattle.pd_bench.proofs.Told.{runs_text}
use Rattle.pd_bench.proofs.texts.run_file.Goals as goal

pub returns-in-Err-clause-text : goal.returns-in-Err-clause-text
returns-in-Err-clause-text g c =
    λ text is. (refused g.row.N text c.args.file _ is c.requires.counts c.in-Err.ensures, refl)

pub returns-clause-text : goal.returns-clause-text
returns-clause-text g c =
    λ text is.
    runs_text g.row.N text _ _ c.session-ran.result _ _ _ _ _ _ _ c.map_err.ensures.cases (λ fault as_run h. h)
    (accepted g.row.N text c.args.file _ is c.requires.counts c.in-Ok.ensures) c.session-ran.ensures.text
    c.session-ran.ensures.whole c.session-ran.ensures.counts

pub returns-clause-cost : goal.returns-clause-cost
returns-clause-cost g c =
    λ text is.
    run_costs g.T.Runner.costs g.row.N text _ _ _ _ c.session-ran.result _ _ _ _ _ _ c.map_err.ensures.cases (λ fault as_run h. h)
    c.empty-runner.ensures.plan (accepted g.row.N text c.args.file _ is c.requires.counts c.in-Ok.ensures)
    c.session-ran.ensures.cost c.session-ran.ensures.rises
