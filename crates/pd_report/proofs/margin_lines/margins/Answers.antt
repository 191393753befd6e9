use Rattle.std.proofs.Common.{◌+◌}
use Rattle.std.proofs.lemmas.Result.{err_from_is_err_and}
use Rattle.pd_scenario.specs.Plan.{Plan}
use Rattle.pd_scenario.specs.Plans.{plan_of}
use Rattle.pd_report.specs.Margins.{margins_head, margins_text}
use Rattle.pd_report.specs.Walk.{text_before}
use Rattle.pd_device.proofs.DeviceLemmas.{WrotePart-longer}
use Rattle.pd_report.proofs.MarginLemmas.{Moves}
use Rattle.pd_report.proofs.WalkLemmas.{Writes-after}
use Rattle.pd_report.proofs.margin_lines.margins.Goals as goal

pub returns-in_err-write_all-clause-text : goal.returns-in_err-write_all-clause-text
unfolding margins_text
returns-in_err-write_all-clause-text g c =
    let plan : Plan = plan_of c.args.scenario.now in
    let moves : Moves = g.T.Runner.entries c.args.run.now in
    let p = err_from_is_err_and c.from_residual.result c.from_residual.ensures.1 in
    rw (p.1, p.2) (
      c.in_err-write_all.ensures.text.0,
      WrotePart-longer _ _ margins_head (text_before plan moves (plan.end + 1))
          c.in_err-write_all.ensures.text.1,
    )

pub returns-then-has_few_changes-clause-text : goal.returns-then-has_few_changes-clause-text
unfolding margins_text
returns-then-has_few_changes-clause-text g c =
    let plan : Plan = plan_of c.args.scenario.now in
    Writes-after _ _ _ c.write_lines.result margins_head (text_before plan (g.T.Runner.entries c.args.run.now) (plan.end + 1))
    c.in_ok-write_all.ensures.text c.write_lines.ensures.text

pub returns-else-has_few_changes-clause-text : goal.returns-else-has_few_changes-clause-text
unfolding margins_text
returns-else-has_few_changes-clause-text g c =
    let plan : Plan = plan_of c.args.scenario.now in
    Writes-after _ _ _ c.write_lines-else-has_few_changes.result margins_head
    (text_before plan (g.T.Runner.entries c.args.run.now) (plan.end + 1)) c.in_ok-write_all.ensures.text
    c.write_lines-else-has_few_changes.ensures.text
