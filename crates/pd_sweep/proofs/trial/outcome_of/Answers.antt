use Rattle.std.proofs.Common.{◌≡◌, ◌∙◌, sym, true}
use Rattle.pd_scenario.specs.Plans.{plan_of}
use Rattle.pd_sweep.specs.Sets.{members}
use Rattle.pd_sweep.specs.Trials.{are_hit, plan_with}
use Rattle.pd_sweep.proofs.EffectLemmas.{is_effect}
use Rattle.pd_sweep.proofs.SetLemmas.{findings_all}
use Rattle.pd_sweep.proofs.trial.outcome_of.Goals as goal

pub returns-clause-value : goal.returns-clause-value
returns-clause-value g c =
    let s = c.args.scenario.now in
    let campaign = c.args.campaign.now in
    let ts = members c.args.packets.now in
    let effect = c.in_ok-effect.effect in
    let moves = g.T.Runner.entries c.run_where_lost.new.run in
    let hit : are_hit s.events ts moves ≡ true = sym c.in_ok-are_hit.ensures ∙ c.if-not-branch.false in
    is_effect s c.args.base.now c.requires.base c.end_time.result c.end_time.ensures.value
    (plan_with s campaign c.args.packets.now) ts effect moves c.in_ok-run_where_lost.ensures.run hit
    (findings_all campaign moves effect.findings ts (plan_of s) c.in_ok-effect.ensures.found)
    c.in_ok-effect.ensures.measured
