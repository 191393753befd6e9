use Rattle.std.proofs.Common.{◌∙◌, ap, sym, subst, ℕ, List, Option}
use Rattle.pd_sweep.specs.declared.packets.Target.{Target}
use Rattle.pd_noise.specs.Losses.{Stage, first_stage}
use Rattle.pd_noise.proofs.ChainLemmas.{Joins, joins_all, joins_one}
use Rattle.pd_noise.proofs.losses.lose.Goals as goal

pub losses-preserved : goal.losses-preserved
losses-preserved g c =
    let noise = c.args.noise.now in
    let first = first_stage c.args.scenario.now noise c.args.number in
    let a : Stage = record { plan = c.losses.plan; place = c.losses.place; generator = c.losses.generator } in
    let b : Stage = record { plan = c.in_ok-plan-2.plan; place = c.of-place.result; generator = c.next_lost.new.generator } in
    let t = c.in-Some.target in
    record {
      shows = c.in_ok-plan-2.ensures.run;
      joins =
          subst (λ (l : List Target). Joins noise first l b) (sym c.in_ok-push.ensures.items)
          (joins_one noise first a b c.losses.losses.items t c.losses.invariant.joins (record {
            moves = g.T.Runner.entries c.losses.run;
            shows = c.losses.invariant.shows;
            drawn = c.in_ok-target.ensures.drawn ∙ ap (λ (o : Option Target). (o, c.next_lost.new.generator)) c.in-Some.is;
            plan_is = c.in_ok-plan-2.ensures.plan;
            place_is = c.of-place.ensures;
          }));
    }

pub returns : goal.returns
returns g c =
    let noise = c.args.noise.now in
    let first = first_stage c.args.scenario.now noise c.args.number in
    let a : Stage = record { plan = c.losses.plan; place = c.losses.place; generator = c.losses.generator } in (
      c.losses.plan,
      joins_all noise first a c.losses.losses.items (g.T.Runner.entries c.losses.run) c.losses.invariant.joins (record {
        shows = c.losses.invariant.shows;
        none_lost =
            ap (λ (x : Option Target × List ℕ). x.0) c.in_ok-target.ensures.drawn ∙ c.in_default.is;
      }),
    )
