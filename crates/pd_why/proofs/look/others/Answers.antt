use Rattle.std.proofs.Common.{◌≡◌, ◌-◌, ◌<◌, lit<, ap, arith, length, List}
use Rattle.pd_run.specs.Live.{port_at}
use Rattle.pd_why.specs.declared.holder.Holder.{Holder}
use Rattle.pd_why.specs.Holds.{others}
use Rattle.pd_why.proofs.ShareLemmas.{few_others, others_more}
use Rattle.pd_why.proofs.look.others.Goals as goal

pub push_other-requires : goal.push_other-requires
push_other-requires g c =
    let n = c.loop-number.number in
    let few = few_others (port_at c.args.live.now) (c.args.port - 1) n in
    let long : length c.loop-number.others.items ≡ length (others (port_at c.args.live.now) (c.args.port - 1) n) =
    ap (λ (v : List Holder). length v) c.loop-number.invariant in
    let room : length c.loop-number.others.items < 8 = omega arith in
    (lit< tt, (room, (c.requires.first, c.loop-number-test.true)))

pub loop-number-preserved : goal.loop-number-preserved
loop-number-preserved g c =
    others_more (port_at c.args.live.now) (c.args.port - 1) c.loop-number.number _ _ c.loop-number.invariant c.push_other.ensures
