use Rattle.std.proofs.Common.{◌+◌, ◌<◌, arith}
use Rattle.pd_timers.specs.Deadlines.{started}
use Rattle.pd_timers.proofs.SlotLemmas.{times_of-set}
use Rattle.pd_timers.proofs.deadlines.Deadlines.start.Goals as goal

pub returns : goal.returns
unfolding started
returns c =
    let v = c.self.view_is in
    let p = c.place_of.ensures.value in
    let n = c.value.ensures.value in
    let below : c.args.now + c.value.result < 4294967295 = omega (arith, c.value.ensures.bounded) in
    let s = times_of-set c.self.inside.at c.place_of.result (c.args.now + c.value.result) below in
    cc
