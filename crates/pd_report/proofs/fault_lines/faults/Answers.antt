use Rattle.std.specs.List.{flat_map}
use Rattle.std.proofs.lemmas.Result.{err_from_is_err_and}
use Rattle.pd_report.specs.FaultLines.{faults_head, fault_lines, faults_text}
use Rattle.pd_device.proofs.DeviceLemmas.{WrotePart-longer}
use Rattle.pd_report.proofs.WalkLemmas.{Writes-after}
use Rattle.pd_report.proofs.fault_lines.faults.Goals as goal

pub returns-in_err-write_all-clause-text : goal.returns-in_err-write_all-clause-text
unfolding faults_text
returns-in_err-write_all-clause-text g c =
    let p = err_from_is_err_and c.from_residual.result c.from_residual.ensures.1 in
    rw (p.1, p.2) (
      c.in_err-write_all.ensures.text.0,
      WrotePart-longer _ _ faults_head
          (flat_map fault_lines (g.T.Runner.entries c.args.run.now)) c.in_err-write_all.ensures.text.1,
    )

pub returns-clause-text : goal.returns-clause-text
unfolding faults_text
returns-clause-text g c =
    Writes-after _ _ _ c.write_entries.result faults_head (flat_map fault_lines (g.T.Runner.entries c.args.run.now))
    c.in_ok-write_all.ensures.text c.write_entries.ensures.text
