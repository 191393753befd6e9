-- Each deadline that a step sets is later than the step.
use Rattle.std.proofs.Common.{ℕ, List, [], ◌∷◌}
use Rattle.pd_timers.specs.declared.Timer.TheVariants.{Delay}
use Rattle.pd_timers.specs.Deadlines.{SetsLater}
use Rattle.pd_timers.proofs.LaterLemmas.{SetsLater-started, SetsLater-idle, SetsLater-same, SetsLater-then}
use Rattle.pd_plug.specs.declared.kinds.Stimulus.{Stimulus}
use Rattle.pd_plug.specs.declared.kinds.Deed.{Deed}
use Rattle.pd_plug.specs.declared.kinds.Deed.TheVariants as deed
use Rattle.pd_plug.specs.Record.{PlugRecord}
use Rattle.pd_plug.specs.Acts.{after, all_after}
use Rattle.pd_plug.specs.Step.{before_row, deeds_at, stepped}

SetsLater-after : (d : Deed) (now : ℕ) (r : PlugRecord) → SetsLater now r.deadlines (after d now r).deadlines
SetsLater-after (deed.Enter s) now r = SetsLater-idle now r.deadlines
SetsLater-after deed.StartDelay now r = SetsLater-started now r.deadlines Delay
SetsLater-after _ now r = SetsLater-same now r.deadlines

SetsLater-all_after : (ds : List Deed) (now : ℕ) (r : PlugRecord) → SetsLater now r.deadlines (all_after ds now r).deadlines
SetsLater-all_after [] now r = SetsLater-same now r.deadlines
SetsLater-all_after (d ∷ ds) now r =
    SetsLater-then now r.deadlines (after d now r).deadlines (all_after ds now (after d now r)).deadlines
    (SetsLater-after d now r) (SetsLater-all_after ds now (after d now r))

pub SetsLater-stepped : (now : ℕ) (x : Stimulus) (r : PlugRecord) → SetsLater now (before_row x r).deadlines (stepped now x r).deadlines
unfolding stepped
SetsLater-stepped now x r = SetsLater-all_after (deeds_at x (before_row x r)) now (before_row x r)
