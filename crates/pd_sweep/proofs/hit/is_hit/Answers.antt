use Rattle.std.proofs.Common.{◌≡◌, List, ap, ◌∙◌, sym, subst, lit<}
use Rattle.pd_scenario.specs.Plans.{plan_of}
use Rattle.pd_scenario.specs.declared.event.ScenarioEvent.{ScenarioEvent}
use Rattle.pd_sweep.specs.Along.{IsQuietBefore, first_disturbance}
use Rattle.pd_sweep.proofs.HitLemmas.{first_soon, quiet_scenario}
use Rattle.pd_sweep.proofs.hit.is_hit.Goals as goal

pub is_hit_from-requires : goal.is_hit_from-requires
is_hit_from-requires g c =
    let v = c.args.variant.now in
    let t = c.args.target.now in
    let first : c.first_disturbance-first.result ≡ first_disturbance v.events t.port t.at =
    c.first_disturbance-first.ensures ∙ ap (λ (l : List ScenarioEvent). first_disturbance l t.port t.at) c.events.ensures.value in
    let quiet = subst (IsQuietBefore (plan_of v) t.port) (sym first) (quiet_scenario v t.port t.at) in
    (lit< tt, ((plan_of v, c.requires, quiet), rw first (first_soon t.port v.events t.at)))
