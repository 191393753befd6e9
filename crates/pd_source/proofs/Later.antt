-- Each deadline that a step sets is later than the step.
use Rattle.std.proofs.Common.{ℕ, List, [], ◌∷◌, Option}
use Rattle.pd_timers.specs.Deadlines.{SetsLater}
use Rattle.pd_timers.proofs.LaterLemmas.{SetsLater-started, SetsLater-idle, SetsLater-same, SetsLater-then}
use Rattle.pd_objects.specs.declared.query.Answer.{Answer}
use Rattle.pd_source.specs.declared.kinds.Stimulus.{Stimulus}
use Rattle.pd_source.specs.declared.kinds.Deed.{Deed}
use Rattle.pd_source.specs.declared.kinds.Deed.TheVariants as deed
use Rattle.pd_source.specs.Record.{SourceSettings, SourceRecord}
use Rattle.pd_source.specs.Acts.{after, all_after}
use Rattle.pd_source.specs.Step.{before_row, deeds_at, stepped}

SetsLater-after : (s : SourceSettings) (d : Deed) (now : ℕ) (x : Stimulus) (a : Option Answer) (r : SourceRecord) →
    SetsLater now r.deadlines (after s d now x a r).deadlines
SetsLater-after s (deed.Enter t) now x a r = SetsLater-idle now r.deadlines
SetsLater-after s deed.EnterAgain now x a r = SetsLater-idle now r.deadlines
SetsLater-after s (deed.Start t) now x a r = SetsLater-started now r.deadlines t
SetsLater-after s _ now x a r = SetsLater-same now r.deadlines

SetsLater-all_after : (s : SourceSettings) (ds : List Deed) (now : ℕ) (x : Stimulus) (a : Option Answer) (r : SourceRecord) →
    SetsLater now r.deadlines (all_after s ds now x a r).deadlines
SetsLater-all_after s [] now x a r = SetsLater-same now r.deadlines
SetsLater-all_after s (d ∷ ds) now x a r =
    SetsLater-then now r.deadlines (after s d now x a r).deadlines (all_after s ds now x a (after s d now x a r)).deadlines
    (SetsLater-after s d now x a r) (SetsLater-all_after s ds now x a (after s d now x a r))

pub SetsLater-stepped : (s : SourceSettings) (now : ℕ) (x : Stimulus) (a : Option Answer) (r : SourceRecord) →
    SetsLater now (before_row x r).deadlines (stepped s now x a r).deadlines
unfolding stepped
SetsLater-stepped s now x a r = SetsLater-all_after s (deeds_at s x a (before_row x r)) now x a (before_row x r)
