use Rattle.std.proofs.Common.{◌≡◌, ◌≤◌, ◌+◌, ◌<◌, length, ap, ◌∙◌, arith}
use Rattle.pd_run.specs.declared.note.Note.TheVariants as note
use Rattle.pd_sweep.specs.Along.{mishaps_after, no_mishap}
use Rattle.pd_sweep.specs.declared.summary.Mishaps.{Mishaps}
use Rattle.pd_sweep.proofs.FoldLemmas.{fold_end, fold_start, fold_step}
use Rattle.pd_sweep.proofs.QuietLemmas.{quiet_fault}
use Rattle.pd_sweep.proofs.WalkLemmas.{mishaps_walked}
use Rattle.pd_sweep.proofs.summary.mishaps_of.Goals as goal

pub loop-index-init : goal.loop-index-init
loop-index-init g c =
    let moves = g.T.Runner.entries c.args.run.now in
    let next = c.next_with-index in
    let none = c.none-mishaps.ensures in
    let no_fault : c.none-mishaps.result.faults ≡ 0 = ap (λ (m : Mishaps). m.faults) none in
    let no_reset : c.none-mishaps.result.hard_resets ≡ 0 = ap (λ (m : Mishaps). m.hard_resets) none in
    record {
      value = none ∙ fold_start mishaps_after no_mishap moves note.Fault quiet_fault next.result next.ensures;
      within = next.ensures.within;
      few = omega (arith, no_fault);
      few_resets = omega (arith, no_reset);
    }

pub loop-index-preserved : goal.loop-index-preserved
loop-index-preserved g c =
    let moves = g.T.Runner.entries c.args.run.now in
    let next = c.next_with-index-in-loop-index in
    let here : c.loop-index.index < length moves = omega (arith, c.len.ensures.count, c.loop-index-test.true) in
    let up : c.loop-index.index + 1 ≤ next.result = omega (arith, next.ensures.not_before, here) in
    record {
      value =
          fold_step mishaps_after no_mishap moves note.Fault quiet_fault c.loop-index.index next.result c.loop-index.mishaps
          c.note_at.new.self here c.loop-index.invariant.value c.note_at.ensures.value next.ensures;
      within = next.ensures.within;
      few = omega (arith, up, c.loop-index.invariant.few, c.note_at.ensures.few);
      few_resets = omega (arith, up, c.loop-index.invariant.few_resets, c.note_at.ensures.few_resets);
    }

pub returns : goal.returns
returns g c =
    let moves = g.T.Runner.entries c.args.run.now in
    let past : length moves ≤ c.loop-index.index = omega (arith, c.len.ensures.count, c.loop-index-test.false) in
    c.loop-index.invariant.value ∙ fold_end mishaps_after no_mishap moves c.loop-index.index past ∙ mishaps_walked moves
