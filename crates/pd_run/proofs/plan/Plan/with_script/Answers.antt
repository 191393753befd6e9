use Rattle.std.proofs.Common.{◌≡◌, ◌-◌, List, Vec, Global, ap, arith, map, set, subst, ◌∙◌}
use Rattle.pd_setup.specs.Events.{EventData}
use Rattle.pd_setup.specs.declared.event.Event.{Event}
use Rattle.pd_scenario.specs.Plan.{IsPlan, Plan, with_script}
use Rattle.pd_run.proofs.Plans.{IsPlan-again, plan_again, with_script_is}
use Rattle.pd_run.proofs.plan.Plan.with_script.Goals.{After-set_script}
use Rattle.pd_run.proofs.plan.Plan.with_script.Given.{Over}
use Rattle.pd_run.proofs.plan.Plan.with_script.Goals as goal

scripts_are : (g : Over) (c : After-set_script g)
    → map (λ (s : Vec Event Global). s.items) c.set_script.new.scripts.items
    ≡ (with_script c.args.self.now (c.args.port - 1) c.args.script.items).scripts
scripts_are g c =
    c.set_script.ensures
    ∙ ap (λ (l : List (List EventData)). set l (c.args.port - 1) c.args.script.items)
    (c.in_ok-scripts.ensures ∙ ap (map (λ (s : Vec Event Global). s.items)) c.deref-2.ensures.value
    ∙ ap (λ (p : Plan). p.scripts) c.self.view_is)

pub invariant_of-result : goal.invariant_of-result
invariant_of-result g c =
    let plan = c.args.self.now in
    let place = c.args.port - 1 in
    let view = c.self.view_is in
    IsPlan-again g.row.N (with_script plan place c.args.script.items) _ _ _ _ _
    (c.in_ok-settings.ensures ∙ c.deref.ensures.value ∙ ap (λ (p : Plan). p.settings) view) (scripts_are g c)
    (ap (λ (p : Plan). p.budget) view) (c.in_ok-forces.ensures ∙ ap (λ (p : Plan). p.forces) view) (ap (λ (p : Plan). p.end) view)
    (with_script_is g.row.N plan place c.args.script.items (subst (IsPlan g.row.N) view c.self.invariant)
    (omega (arith, c.requires.first, c.requires.last)) c.requires.script)

pub returns : goal.returns
returns g c =
    let plan = c.args.self.now in
    let view = c.self.view_is in
    plan_again (with_script plan (c.args.port - 1) c.args.script.items) _ _ _ _ _
    (c.in_ok-settings.ensures ∙ c.deref.ensures.value ∙ ap (λ (p : Plan). p.settings) view) (scripts_are g c)
    (ap (λ (p : Plan). p.budget) view) (c.in_ok-forces.ensures ∙ ap (λ (p : Plan). p.forces) view) (ap (λ (p : Plan). p.end) view)
