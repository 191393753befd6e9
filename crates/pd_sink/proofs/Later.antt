-- Each deadline that a step sets is later than the step.
use Rattle.std.proofs.Common.{ℕ, Bool, true, false, List, [], ◌∷◌, Option}
use Rattle.pd_timers.specs.declared.Timer.{Timer}
use Rattle.pd_timers.specs.Deadlines.{SetsLater}
use Rattle.pd_timers.specs.SinkDeadlines.{timer_of}
use Rattle.pd_timers.proofs.LaterLemmas.{SetsLater-started, SetsLater-idle, SetsLater-same, SetsLater-then}
use Rattle.pd_sink.specs.declared.kinds.Stimulus.{Stimulus}
use Rattle.pd_sink.specs.declared.kinds.Deed.{Deed}
use Rattle.pd_sink.specs.declared.kinds.Deed.TheVariants as deed
use Rattle.pd_sink.specs.Record.{SinkRecord}
use Rattle.pd_sink.specs.Acts.{after, started_where, all_after}
use Rattle.pd_sink.specs.Step.{before_row, deeds_at, stepped}

SetsLater-started_where : (b : Bool) (now : ℕ) (ds : List (Option ℕ)) (t : Timer) → SetsLater now ds (started_where b ds now t)
SetsLater-started_where true now ds t = SetsLater-started now ds t
SetsLater-started_where false now ds t = SetsLater-same now ds

SetsLater-after : (d : Deed) (now : ℕ) (x : Stimulus) (r : SinkRecord) → SetsLater now r.deadlines (after d now x r).deadlines
SetsLater-after (deed.Enter s) now x r = SetsLater-idle now r.deadlines
SetsLater-after (deed.Start t) now x r = SetsLater-started now r.deadlines (timer_of t)
SetsLater-after (deed.StartWhereAgain t) now x r = SetsLater-started_where r.again now r.deadlines (timer_of t)
SetsLater-after (deed.StartWhereFresh t) now x r = SetsLater-started_where r.fresh now r.deadlines (timer_of t)
SetsLater-after _ now x r = SetsLater-same now r.deadlines

SetsLater-all_after : (ds : List Deed) (now : ℕ) (x : Stimulus) (r : SinkRecord) →
    SetsLater now r.deadlines (all_after ds now x r).deadlines
SetsLater-all_after [] now x r = SetsLater-same now r.deadlines
SetsLater-all_after (d ∷ ds) now x r =
    SetsLater-then now r.deadlines (after d now x r).deadlines (all_after ds now x (after d now x r)).deadlines
    (SetsLater-after d now x r) (SetsLater-all_after ds now x (after d now x r))

pub SetsLater-stepped : (now : ℕ) (x : Stimulus) (r : SinkRecord) → SetsLater now (before_row x r).deadlines (stepped now x r).deadlines
unfolding stepped
SetsLater-stepped now x r = SetsLater-all_after (deeds_at x (before_row x r)) now x (before_row x r)
