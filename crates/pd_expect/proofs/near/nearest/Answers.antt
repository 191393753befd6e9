use Rattle.std.proofs.Common.{◌≡◌, ◌≤◌, length, arith, ap, sym, subst, ◌∙◌}
use Rattle.std.proofs.lemmas.List.{take_all}
use Rattle.pd_report.proofs.MarginLemmas.{in-order}
use Rattle.pd_expect.specs.Details.{nearest, times_of}
use Rattle.pd_expect.specs.OverTime.{IsSoonest, Moves}
use Rattle.pd_expect.specs.declared.near.Near.{Near}
use Rattle.pd_expect.proofs.NearLemmas.{near_seen}
use Rattle.pd_expect.proofs.SoonestLemmas.{soonest}
use Rattle.pd_expect.proofs.near.nearest.Goals as goal

pub loop-index-preserved : goal.loop-index-preserved
loop-index-preserved g c =
    near_seen c.args.from c.args.to c.args.sign.now (g.T.Runner.entries c.args.run.now) c.loop-index.index c.loop-index.near
    c.noting_index-near.result c.loop-index.invariant c.noting_index-near.ensures

pub returns-clause-soonest : goal.returns-clause-soonest
returns-clause-soonest g c =
    let moves : Moves = g.T.Runner.entries c.args.run.now in
    let past : length moves ≤ c.loop-index.index = omega (arith, c.len-index-end.ensures.count, c.loop-index-test.false) in
    let whole : c.loop-index.near ≡ nearest c.args.sign.now c.args.from c.args.to moves =
    c.loop-index.invariant ∙ ap (nearest c.args.sign.now c.args.from c.args.to) (take_all c.loop-index.index moves past) in
    subst (λ (near : Near). IsSoonest (times_of c.args.sign.now moves) c.args.to near.after) (sym whole)
    (soonest c.args.to c.args.sign.now moves (in-order _ _ moves c.len-index-end.ensures.run).rising)
