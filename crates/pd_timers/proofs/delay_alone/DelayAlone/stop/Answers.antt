use Rattle.pd_timers.proofs.DelayLemmas.{delay_stopped, another_stopped}
use Rattle.pd_timers.proofs.delay_alone.DelayAlone.stop.Goals.{in-Delay, in_default}
use Rattle.pd_timers.proofs.delay_alone.DelayAlone.stop.Goals as goal

pub returns : goal.returns
returns c =
    let v = c.self.view_is in
    elim c.match-timer.branch [
      | in-Delay w ↦ let is = w.in-Delay.is in let at = w.self-is in let s = delay_stopped c.self.inside.at in cc
      | in_default w ↦ let at = w.self-is in let s = another_stopped c.self.inside.at c.args.timer w.in_default.not-Delay in cc
    ]
