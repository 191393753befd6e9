use Rattle.std.proofs.Common.{sym}
use Rattle.std.specs.List.{flat_map}
use Rattle.std.proofs.lemmas.Result.{err_from_is_err_and}
use Rattle.pd_report.specs.Report.{head_text, line_of, transcript_text}
use Rattle.pd_device.proofs.DeviceLemmas.{WrotePart-longer}
use Rattle.pd_report.proofs.WalkLemmas.{Writes-after}
use Rattle.pd_report.proofs.report.transcript.Goals as goal

pub returns-in_err-write_text-clause-text : goal.returns-in_err-write_text-clause-text
unfolding transcript_text
returns-in_err-write_text-clause-text g c =
    let p = err_from_is_err_and c.from_residual.result c.from_residual.ensures.1 in
    rw (p.1, p.2) (
      c.in_err-write_text.ensures.text.0,
      WrotePart-longer _ _ (head_text c.args.port)
          (flat_map (line_of c.args.port) (g.T.Runner.entries c.args.run.now)) (rw (sym c.head.ensures) c.in_err-write_text.ensures.text.1),
    )

pub returns-clause-text : goal.returns-clause-text
unfolding transcript_text
returns-clause-text g c =
    Writes-after _ _ _ c.write_entries.result (head_text c.args.port) (flat_map (line_of c.args.port) (g.T.Runner.entries c.args.run.now))
    (rw (sym c.head.ensures) c.in_ok-write_text.ensures.text) c.write_entries.ensures.text
