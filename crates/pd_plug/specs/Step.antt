-- One step of the plug's policy engine, and what is read of it.
use Rattle.std.specs.Prelude.{ℕ, Bool, true, false, List, Some}
use Rattle.pd_timers.specs.Deadlines.{stopped}
use Rattle.pd_plug.specs.declared.kinds.State.{State}
use Rattle.pd_plug.specs.declared.kinds.State.TheVariants as state
use Rattle.pd_plug.specs.declared.kinds.Stimulus.{Stimulus}
use Rattle.pd_plug.specs.declared.kinds.Stimulus.TheVariants as stimulus
use Rattle.pd_plug.specs.declared.kinds.Act.{Act}
use Rattle.pd_plug.specs.declared.kinds.Deed.{Deed}
use Rattle.pd_plug.specs.Record.{PlugRecord}
use Rattle.pd_plug.specs.Table.{Row, holds, row_of, deeds_of_row}
use Rattle.pd_plug.specs.Acts.{all_after, all_wants}

-- before the row is taken, a cable that is attached is known, a timer that falls due has ended, and Sent has set the mark
abbrev pub before_row : Stimulus → PlugRecord → PlugRecord
before_row (stimulus.Attach cable) r = record r { cable = Some cable }
before_row stimulus.Sent r = record r { sent = true }
before_row (stimulus.Ended t) r = record r { deadlines = stopped r.deadlines t }
before_row _ r = r

-- the row that is taken, and what it does
abbrev pub row_at : Stimulus → PlugRecord → Row
row_at x r = row_of (holds r) r.state x

abbrev pub deeds_at : Stimulus → PlugRecord → List Deed
deeds_at x r = deeds_of_row (row_at x r)

-- the engine after a step
unfoldable pub stepped : ℕ → Stimulus → PlugRecord → PlugRecord
stepped now x r = all_after (deeds_at x (before_row x r)) now (before_row x r)

-- what a step wants of the port, in order
unfoldable pub acts_of : ℕ → Stimulus → PlugRecord → List Act
acts_of now x r = all_wants (deeds_at x (before_row x r)) now (before_row x r)

-- whether messages reach the engine
abbrev pub hears_in : PlugRecord → Bool
hears_in r = hears r.state where
  hears : State → Bool
  hears state.Off = false
  hears _ = true
