use Rattle.std.proofs.Common.{◌≤◌, length, ◌∙◌, arith, sym, take}
use Rattle.pd_run.specs.declared.note.Note.TheVariants as note
use Rattle.pd_sweep.specs.Along.{makers_after, nobody}
use Rattle.pd_sweep.proofs.FoldLemmas.{fold_end, fold_from, fold_step}
use Rattle.pd_sweep.proofs.PlaceLemmas.{none_made}
use Rattle.pd_sweep.proofs.QuietLemmas.{quiet_maker}
use Rattle.pd_sweep.proofs.WalkLemmas.{makers_walked}
use Rattle.pd_sweep.proofs.makers.makers_of.Goals as goal

pub loop-index-init : goal.loop-index-init
loop-index-init g c =
    let moves = g.T.Runner.entries c.args.run.now in
    let at = c.args.at in
    let next = c.next_with-index in
    let place = c.place_at-place in
    record {
      value =
          fold_from (makers_after at) nobody moves note.Contract (quiet_maker at) place.result next.result c.nobody-makers.result
          place.ensures.within (c.nobody-makers.ensures ∙ sym (none_made at (take place.result moves) place.ensures.before)) next.ensures;
      within = next.ensures.within;
    }

pub loop-index-preserved : goal.loop-index-preserved
loop-index-preserved g c =
    let moves = g.T.Runner.entries c.args.run.now in
    let at = c.args.at in
    let next = c.next_with-index-in-loop-index in
    record {
      value =
          fold_step (makers_after at) nobody moves note.Contract (quiet_maker at) c.loop-index.index next.result c.loop-index.makers
          c.note_at.new.self (omega (arith, c.len.ensures.count, c.loop-index-test.true)) c.loop-index.invariant.value c.note_at.ensures
          next.ensures;
      within = next.ensures.within;
    }

pub returns : goal.returns
returns g c =
    let moves = g.T.Runner.entries c.args.run.now in
    let past : length moves ≤ c.loop-index.index = omega (arith, c.len.ensures.count, c.loop-index-test.false) in
    c.loop-index.invariant.value ∙ fold_end (makers_after c.args.at) nobody moves c.loop-index.index past ∙ makers_walked c.args.at moves
