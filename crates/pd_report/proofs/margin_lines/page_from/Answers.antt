use Rattle.std.proofs.Common.{◌∙◌, ap, ◌++◌, sym, append_assoc, arith, inl, inr}
use Rattle.pd_scenario.specs.Plans.{plan_of}
use Rattle.pd_report.specs.Walk.{text_before}
use Rattle.pd_report.proofs.margin_lines.page_from.Goals as goal

pub loop-walk-preserved : goal.loop-walk-preserved
loop-walk-preserved g c =
    let before = text_before (plan_of c.args.scenario.now) (g.T.Runner.entries c.args.run.now) c.args.walk.now.at in
    let added = c.add_step.ensures.text in
    record {
      walked = c.add_step.ensures.walk;
      end_is = c.loop-walk.invariant.end_is;
      text =
          added.2 ∙ ap (λ v. v ++ added.0) c.loop-walk.invariant.text ∙ append_assoc before c.loop-walk.page added.0
          ∙ ap (λ v. before ++ v) (sym added.1);
      less =
          elim c.loop-walk.invariant.less [
            | inl less ↦ inl (omega (arith, less, c.add_step.ensures.less))
            | inr still ↦ inl (omega (arith, still.0, c.add_step.ensures.less))
          ];
    }
