use Rattle.std.proofs.Common.{◌≤◌, length, ◌∙◌, arith}
use Rattle.pd_run.specs.declared.note.Note.TheVariants as note
use Rattle.pd_sweep.specs.Along.{nothing_stands, stands_after}
use Rattle.pd_sweep.proofs.FoldLemmas.{fold_end, fold_start, fold_step}
use Rattle.pd_sweep.proofs.QuietLemmas.{quiet_contract}
use Rattle.pd_sweep.proofs.WalkLemmas.{standing_walked}
use Rattle.pd_sweep.proofs.summary.standing_of.Goals as goal

pub loop-index-init : goal.loop-index-init
loop-index-init g c =
    let moves = g.T.Runner.entries c.args.run.now in
    let next = c.next_with-index in
    record {
      value =
          c.nothing-standing.ensures
          ∙ fold_start stands_after nothing_stands moves note.Contract quiet_contract next.result next.ensures;
      within = next.ensures.within;
    }

pub loop-index-preserved : goal.loop-index-preserved
loop-index-preserved g c =
    let moves = g.T.Runner.entries c.args.run.now in
    let next = c.next_with-index-in-loop-index in
    record {
      value =
          fold_step stands_after nothing_stands moves note.Contract quiet_contract c.loop-index.index next.result c.loop-index.standing
          c.note_at.new.self (omega (arith, c.len.ensures.count, c.loop-index-test.true)) c.loop-index.invariant.value c.note_at.ensures
          next.ensures;
      within = next.ensures.within;
    }

pub returns : goal.returns
returns g c =
    let moves = g.T.Runner.entries c.args.run.now in
    let past : length moves ≤ c.loop-index.index = omega (arith, c.len.ensures.count, c.loop-index-test.false) in
    c.loop-index.invariant.value ∙ fold_end stands_after nothing_stands moves c.loop-index.index past ∙ standing_walked moves
