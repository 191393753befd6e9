use Rattle.std.proofs.Common.{◌≡◌, take}
use Rattle.pd_timers.specs.Deadlines.{best_of, timers}
use Rattle.pd_timers.specs.Slots.{times_of, told, IsPlain}
use Rattle.pd_timers.proofs.deadlines.first_in.Given as goal

abbrev pub invariant-loop-timer : goal.invariant-loop-timer
invariant-loop-timer l =
    (told l.first.time l.first.timer ≡ best_of (take l.timer-index timers) (times_of l.at)) × IsPlain l.first.time l.first.timer
