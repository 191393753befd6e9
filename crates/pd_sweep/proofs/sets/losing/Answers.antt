use Rattle.std.proofs.Common.{◌+◌, ◌-◌, arith, lit<, subst, sym}
use Rattle.pd_sweep.specs.Sets.{AreOfRun}
use Rattle.pd_sweep.proofs.SetLemmas.{HasFew, few_too}
use Rattle.pd_sweep.proofs.sets.losing.Goals as goal

pub lost-requires-in-Two-2 : goal.lost-requires-in-Two-2
lost-requires-in-Two-2 g c =
    let behind = c.from-behind.result in
    let t = c.in-Two.second in
    let known = subst (AreOfRun g.row.N) c.in-Two.is c.requires.known in
    let few = few_too g.row.N c.args.plan.now c.args.campaign.now.loss behind c.in-Two.first 4096 c.requires.few in
    let here = subst (HasFew g.row.N (4096 + (behind + 1))) (sym c.in_ok-one-in-Two.ensures) few in
    let (some, within) = known.1.0 in
    let short = (here (t.port - 1) (omega (arith, some, within.0))).1 in
    (lit< tt, (known.1.0, omega (arith, short, c.from-behind.ensures)))

pub lost-requires-in-Three-2 : goal.lost-requires-in-Three-2
lost-requires-in-Three-2 g c =
    let behind = c.from-behind.result in
    let t = c.in-Three.second in
    let known = subst (AreOfRun g.row.N) c.in-Three.is c.requires.known in
    let few = few_too g.row.N c.args.plan.now c.args.campaign.now.loss behind c.in-Three.first 4096 c.requires.few in
    let here = subst (HasFew g.row.N (4096 + (behind + 1))) (sym c.in_ok-one-in-Three.ensures) few in
    let (some, within) = known.1.0 in
    let short = (here (t.port - 1) (omega (arith, some, within.0))).1 in
    (lit< tt, (known.1.0, omega (arith, short, c.from-behind.ensures)))

pub lost-requires-in-Three-3 : goal.lost-requires-in-Three-3
lost-requires-in-Three-3 g c =
    let behind = c.from-behind.result in
    let t = c.in-Three.third in
    let loss = c.args.campaign.now.loss in
    let known = subst (AreOfRun g.row.N) c.in-Three.is c.requires.known in
    let few = few_too g.row.N c.args.plan.now loss behind c.in-Three.first 4096 c.requires.few in
    let one = subst (HasFew g.row.N (4096 + (behind + 1))) (sym c.in_ok-one-in-Three.ensures) few in
    let more = few_too g.row.N c.in_ok-one-in-Three.one loss behind c.in-Three.second (4096 + (behind + 1)) one in
    let here = subst (HasFew g.row.N ((4096 + (behind + 1)) + (behind + 1))) (sym c.in_ok-two-in-Three.ensures) more in
    let (some, within) = known.1.1.0 in
    let short = (here (t.port - 1) (omega (arith, some, within.0))).1 in
    (lit< tt, (known.1.1.0, omega (arith, short, c.from-behind.ensures)))
