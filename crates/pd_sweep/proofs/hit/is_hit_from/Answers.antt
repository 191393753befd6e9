use Rattle.std.proofs.Common.{◌∙◌, ◌<◌, ◌≤◌, List, ap, arith, drop, length, refl, sym}
use Rattle.std.specs.Prelude.{◌||◌}
use Rattle.pd_watch.specs.Watch.{WatchData, at_rest}
use Rattle.pd_scenario.specs.declared.event.ScenarioEvent.{ScenarioEvent}
use Rattle.pd_sweep.specs.Trials.{hit_from}
use Rattle.pd_sweep.proofs.HitLemmas.{at_end, one_more, quiet_in}
use Rattle.pd_sweep.proofs.WatchLemmas.{skipped}
use Rattle.pd_sweep.proofs.hit.is_hit_from.Goals as goal
use Rattle.pd_sweep.proofs.hit.is_hit_from.Goals.{else-loop-index-test, then-loop-index-test+else-not-hit}

pub loop-index-init : goal.loop-index-init
loop-index-init g c =
    let t = c.args.target.now in
    let es : List ScenarioEvent = c.args.scenario.now.events in
    let moves = g.T.Runner.entries c.args.run.now in
    let place = c.place_at-index in
    let (plan, is, quiet) = c.requires.quiet in
    record {
      value =
          skipped es t c.args.first c.requires.soon at_rest moves place.result refl place.ensures.before
          (quiet_in g.row.N plan moves (g.T.Runner.plan c.args.run.now) t c.args.first is quiet c.len-count.ensures.run)
          ∙ ap (λ (w : WatchData). hit_from es t w (drop place.result moves)) (sym c.new-watch.ensures);
      within = place.ensures.within;
    }

pub loop-index-preserved : goal.loop-index-preserved
loop-index-preserved g c =
    let t = c.args.target.now in
    let es : List ScenarioEvent = c.args.scenario.now.events in
    let moves = g.T.Runner.entries c.args.run.now in
    let i = c.loop-index.index in
    let here : i < length moves = omega (arith, c.len-count.ensures.count, c.loop-index-test.true) in
    record {
      value =
          c.loop-index.invariant.value ∙ ap (λ b. b || hit_from es t c.loop-index.watch (drop i moves)) c.if-not-hit.true
          ∙ one_more es t moves i c.loop-index.watch c.watch_at.new.watch c.in_ok-hit.hit c.in_ok-hit.ensures.hit c.in_ok-hit.ensures.watch;
      within = omega (arith, here);
    }

pub returns : goal.returns
returns g c =
    let t = c.args.target.now in
    let es : List ScenarioEvent = c.args.scenario.now.events in
    let moves = g.T.Runner.entries c.args.run.now in
    let i = c.loop-index.index in
    let w = c.loop-index.watch in
    let value = c.loop-index.invariant.value in
    elim c.loop-index-test.branch [
      | then-loop-index-test+else-not-hit over ↦
          over.if-not-hit.false ∙ sym (value ∙ ap (λ b. b || hit_from es t w (drop i moves)) over.if-not-hit.false)
      | else-loop-index-test over ↦
          let late : length moves ≤ i = omega (arith, c.len-count.ensures.count, over.loop-index-test.false) in
          sym (value ∙ at_end es t moves i w w c.loop-index.hit late)
    ]
