use Rattle.std.proofs.Common.{sym, subst}
use Rattle.std.specs.List.{AllByRecursion}
use Rattle.pd_sweep.specs.Lost.{IsOfRun}
use Rattle.pd_sweep.specs.Sets.{AreOfRun, is_behind}
use Rattle.pd_sweep.proofs.SetLemmas.{further_known}
use Rattle.pd_sweep.proofs.SweepLemmas.{all_first}
use Rattle.pd_sweep.proofs.sets.further.Goals as goal

pub returns-clause-known : goal.returns-clause-known
returns-clause-known g c =
    let targets = c.as_slice-target-items.result.now in
    let known = subst (AllByRecursion (IsOfRun g.row.N)) (sym c.as_slice-target-items.ensures.value) c.in_ok-targets.ensures.known in
    subst (AllByRecursion (AreOfRun g.row.N)) (sym c.loop-target.invariant)
    (further_known g.row.N c.args.packets.now (is_behind c.last-last.result) _ c.requires.known
    (all_first (IsOfRun g.row.N) c.loop-target.target-index targets known))
