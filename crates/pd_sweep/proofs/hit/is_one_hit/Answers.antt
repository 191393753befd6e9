use Rattle.std.proofs.Common.{◌≡◌, List, ap, ◌∙◌, sym, subst, arith, lit<}
use Rattle.pd_scenario.specs.Plans.{plan_of}
use Rattle.pd_scenario.specs.declared.event.ScenarioEvent.{ScenarioEvent}
use Rattle.pd_sweep.specs.Along.{IsQuietBefore, earliest_of, first_disturbance}
use Rattle.pd_sweep.specs.Sets.{members}
use Rattle.pd_sweep.specs.Trials.{plan_with}
use Rattle.pd_sweep.proofs.HitLemmas.{first_soon, quiet_scenario}
use Rattle.pd_sweep.proofs.LostLemmas.{scripts_known}
use Rattle.pd_sweep.proofs.SetLemmas.{all_later, quiet_all}
use Rattle.pd_sweep.proofs.hit.is_one_hit.Goals as goal

pub is_hit_from-requires : goal.is_hit_from-requires
is_hit_from-requires g c =
    let s = c.args.scenario.now in
    let t = c.args.target.now in
    let campaign = c.args.campaign.now in
    let ps = c.args.packets.now in
    let early = earliest_of ps in
    let first : c.first_disturbance-first.result ≡ first_disturbance s.events t.port early =
    c.first_disturbance-first.ensures
    ∙ ap (λ (l : List ScenarioEvent). first_disturbance l t.port c.earliest_of-earliest.result) c.events.ensures.value
    ∙ ap (first_disturbance s.events t.port) c.earliest_of-earliest.ensures in
    let soon = first_soon t.port s.events early in
    let quiet =
    quiet_all campaign t.port (first_disturbance s.events t.port early) (members ps) (plan_of s) (scripts_known s)
    (all_later (first_disturbance s.events t.port early) ps soon) (quiet_scenario s t.port early) in (
      lit< tt,
      (
        (plan_with s campaign ps, c.requires.plan, subst (IsQuietBefore (plan_with s campaign ps) t.port) (sym first) quiet),
        omega (arith, first, soon, c.requires.soon),
      ),
    )
