use Rattle.std.proofs.Common.{◌∙◌, ap, arith, subst, sym}
use Rattle.std.specs.List.{AllByRecursion, flat_map}
use Rattle.std.proofs.lemmas.List.{take_all}
use Rattle.pd_sweep.specs.Choices.{chosen_of}
use Rattle.pd_sweep.specs.Lost.{IsOfRun}
use Rattle.pd_sweep.proofs.FoldLemmas.{flat_more}
use Rattle.pd_sweep.proofs.PacketLemmas.{packets_of_run}
use Rattle.pd_sweep.proofs.packets.chosen.Goals as goal

pub loop-index-preserved : goal.loop-index-preserved
loop-index-preserved g c =
    flat_more (chosen_of c.args.choice.now) (g.T.Runner.entries c.args.run.now) c.loop-index.index c.loop-index.targets.items
    c.push_chosen_at.new.targets.items c.loop-index.invariant c.in_ok-push_chosen_at.ensures

pub returns-clause-known : goal.returns-clause-known
returns-clause-known g c =
    let moves = g.T.Runner.entries c.args.run.now in
    let over = take_all c.loop-index.index moves (omega (arith, c.loop-index-test.false, c.len-index-end.ensures.count)) in
    subst (AllByRecursion (IsOfRun g.row.N))
    (sym (c.loop-index.invariant ∙ ap (flat_map (chosen_of c.args.choice.now)) over))
    (packets_of_run g.row.N (g.T.Runner.plan c.args.run.now) c.args.choice.now moves c.len-index-end.ensures.run)
