use Rattle.std.proofs.Common.{◌<◌, arith, refl, ◌∙◌}
use Rattle.std.proofs.KnownBytes.{Appends-nil}
use Rattle.std.proofs.lemmas.Result.{err_from_is_err_and}
use Rattle.pd_scenario.specs.Plan.{Plan}
use Rattle.pd_scenario.specs.Plans.{plan_of}
use Rattle.pd_report.proofs.MarginLemmas.{Moves}
use Rattle.pd_report.proofs.WalkLemmas.{walk-start, text-whole, cut-line, written-more}
use Rattle.pd_report.proofs.margin_lines.write_lines.Goals as goal

pub loop-walk-init : goal.loop-walk-init
loop-walk-init g c =
    let plan : Plan = plan_of c.args.scenario.now in
    let moves : Moves = g.T.Runner.entries c.args.run.now in
    let new = c.new-walk.ensures in
    record {
      walked = walk-start plan moves c.new-walk.result new.seen new.powers new.at new.before new.knows;
      end_is = c.end_time-end.ensures.value;
      written = rw new.at (Appends-nil _);
      counts = refl;
    }

pub loop-walk-preserved : goal.loop-walk-preserved
loop-walk-preserved g c = record {
  walked = c.page_from.ensures.walk;
  end_is = c.loop-walk.invariant.end_is;
  written =
      written-more (plan_of c.args.scenario.now) (g.T.Runner.entries c.args.run.now) _ _ _ c.loop-walk.walk.at c.page_from.new.walk.at
      c.page_from.result c.page_from.ensures.text
      c.loop-walk.invariant.written c.in_ok-write_text.ensures.text;
  counts = c.in_ok-write_text.ensures.counts ∙ c.loop-walk.invariant.counts;
}

pub returns-in_err-write_text-clause-text : goal.returns-in_err-write_text-clause-text
returns-in_err-write_text-clause-text g c =
    let p = err_from_is_err_and c.from_residual.result c.from_residual.ensures.1 in
    rw (p.1, p.2) (
      c.in_err-write_text.ensures.text.0,
      cut-line (plan_of c.args.scenario.now) (g.T.Runner.entries c.args.run.now) _ _ _ c.loop-walk.walk.at c.page_from.new.walk.at
          c.page_from.result c.page_from.ensures.walk.in_time c.page_from.ensures.text c.loop-walk.invariant.written
          c.in_err-write_text.ensures.text.1,
    )

pub returns-clause-text : goal.returns-clause-text
returns-clause-text g c =
    let plan : Plan = plan_of c.args.scenario.now in
    let past : plan.end < c.loop-walk.walk.at = omega (arith, c.loop-walk.invariant.end_is, c.loop-walk-test.false) in
    rw (text-whole plan (g.T.Runner.entries c.args.run.now) c.loop-walk.walk c.loop-walk.invariant.walked past)
    c.loop-walk.invariant.written
