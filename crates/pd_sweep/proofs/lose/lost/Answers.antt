use Rattle.std.proofs.Common.{◌≡◌, ◌+◌, ◌-◌, ◌∙◌, arith, ap, lit<, refl, subst, sym}
use Rattle.std.specs.Prelude.{replicate}
use Rattle.std.proofs.lemmas.Result.{IfOk-weaker}
use Rattle.pd_scenario.specs.Plan.{IsScripted, with_script}
use Rattle.pd_sweep.specs.Lost.{lost, put_in, with_events}
use Rattle.pd_sweep.proofs.LostLemmas.{is_lost, is_scripted}
use Rattle.pd_sweep.proofs.lose.lost.Goals as goal

pub with_script-requires : goal.with_script-requires
with_script-requires g c =
    let plan = c.args.plan.now in
    let t = c.args.target.now in
    let (some, few) = c.requires.known in
    let more = replicate (c.args.behind + 1) (put_in c.args.loss t.at) in
    let events_are = c.in_ok-events.ensures ∙ ap (with_events more t.at) c.script-script.ensures.script in (
      lit< tt,
      (
        some,
        (
          few.0,
          subst (IsScripted plan.forces) (sym events_are)
              (is_scripted g.row.N plan (t.port - 1) c.args.behind (put_in c.args.loss t.at) c.script-script.ensures.is_plan
              (omega (arith, some, few.0)) refl c.requires.room),
        ),
      ),
    )

pub returns : goal.returns
returns g c =
    let plan = c.args.plan.now in
    let t = c.args.target.now in
    let more = replicate (c.args.behind + 1) (put_in c.args.loss t.at) in
    let events_are = c.in_ok-events.ensures ∙ ap (with_events more t.at) c.script-script.ensures.script in
    IfOk-weaker c.with_script.result (λ changed. changed ≡ with_script plan (t.port - 1) c.in_ok-events.events.items)
    (λ changed. changed ≡ lost plan c.args.loss c.args.behind t)
    (λ changed is. is ∙ is_lost plan c.args.loss c.args.behind t c.in_ok-events.events.items events_are) c.with_script.ensures
