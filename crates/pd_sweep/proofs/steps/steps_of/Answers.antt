use Rattle.std.proofs.Common.{◌≡◌, ◌≤◌, length, ◌∙◌, [], List, arith, subst, sym}
use Rattle.pd_run.specs.declared.note.Note.TheVariants as note
use Rattle.pd_sweep.specs.Along.{gathered}
use Rattle.pd_sweep.specs.Beside.{AreInOrder}
use Rattle.pd_sweep.specs.Measures.{steps_of}
use Rattle.pd_sweep.specs.declared.measure.Step.{Step}
use Rattle.pd_sweep.proofs.ChangeLemmas.{quiet_step, steps_gathered, steps_in_order}
use Rattle.pd_sweep.proofs.FoldLemmas.{fold_end, fold_start, fold_step}
use Rattle.pd_sweep.proofs.steps.steps_of.Goals as goal

pub loop-index-init : goal.loop-index-init
loop-index-init g c =
    let moves = g.T.Runner.entries c.args.run.now in
    let end = c.args.end in
    let next = c.next_with-index in
    record {
      value = c.new-steps.ensures.items ∙ fold_start (gathered end) [] moves note.Contract (quiet_step end) next.result next.ensures;
      within = next.ensures.within;
    }

pub loop-index-preserved : goal.loop-index-preserved
loop-index-preserved g c =
    let moves = g.T.Runner.entries c.args.run.now in
    let end = c.args.end in
    let next = c.next_with-index-in-loop-index in
    record {
      value =
          fold_step (gathered end) [] moves note.Contract (quiet_step end) c.loop-index.index next.result c.loop-index.steps.items
          c.push_step_at.new.steps.items (omega (arith, c.len.ensures.count, c.loop-index-test.true)) c.loop-index.invariant.value
          c.in_ok-push_step_at.ensures next.ensures;
      within = next.ensures.within;
    }

pub returns : goal.returns
returns g c =
    let moves = g.T.Runner.entries c.args.run.now in
    let end = c.args.end in
    let past : length moves ≤ c.loop-index.index = omega (arith, c.len.ensures.count, c.loop-index-test.false) in
    let are : c.loop-index.steps.items ≡ steps_of end moves =
    c.loop-index.invariant.value ∙ fold_end (gathered end) [] moves c.loop-index.index past ∙ steps_gathered end moves in
    record {
      steps = are;
      order =
          subst (λ (l : List Step). AreInOrder end l) (sym are)
          (steps_in_order g.row.N (g.T.Runner.plan c.args.run.now) moves end c.len.ensures.run);
    }
