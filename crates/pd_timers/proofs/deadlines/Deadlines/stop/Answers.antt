use Rattle.std.proofs.lemmas.List.{map-set}
use Rattle.pd_timers.specs.Deadlines.{stopped}
use Rattle.pd_timers.specs.Slots.{time_of}
use Rattle.pd_timers.proofs.deadlines.Deadlines.stop.Goals as goal

pub returns : goal.returns
unfolding stopped
returns c =
    let v = c.self.view_is in
    let p = c.place_of.ensures.value in
    let s = map-set time_of c.self.inside.at c.place_of.result 4294967295 in
    cc
