-- One step of the sink's policy engine, and what is read of it.
use Rattle.std.specs.Prelude.{ℕ, Bool, true, false, List, Option, Some, None}
use Rattle.pd_timers.specs.Deadlines.{stopped}
use Rattle.pd_sink.specs.declared.kinds.State.{State}
use Rattle.pd_sink.specs.declared.kinds.State.TheVariants as state
use Rattle.pd_sink.specs.declared.kinds.Stimulus.{Stimulus}
use Rattle.pd_sink.specs.declared.kinds.Stimulus.TheVariants as stimulus
use Rattle.pd_sink.specs.declared.kinds.Act.{Act}
use Rattle.pd_sink.specs.declared.kinds.Deed.{Deed}
use Rattle.pd_setup.specs.Sinks.{SinkData, bits_of}
use Rattle.pd_sink.specs.Record.{SinkRecord}
use Rattle.pd_sink.specs.Table.{Row, holds, row_of, deeds_of_row}
use Rattle.pd_sink.specs.Acts.{all_after, all_wants}

-- the sink with another demand, where one is attached
abbrev pub demanding : ℕ → Option SinkData → Option SinkData
demanding mw None = None
demanding mw (Some sink) = Some (record sink { demand_mw = mw })

-- before the row is taken, a sink that is attached is known, a timer that falls due has ended, Sent has set the mark, and
-- another demand is known
abbrev pub before_row : Stimulus → SinkRecord → SinkRecord
before_row (stimulus.Attach sink) r = record r { sink = Some sink }
before_row stimulus.Sent r = record r { sent = true }
before_row (stimulus.Ended t) r = record r { deadlines = stopped r.deadlines t }
before_row (stimulus.Demand mw) r = record r { sink = demanding mw r.sink }
before_row _ r = r

-- the row that is taken, and what it does
abbrev pub row_at : Stimulus → SinkRecord → Row
row_at x r = row_of (holds r) r.state x

abbrev pub deeds_at : Stimulus → SinkRecord → List Deed
deeds_at x r = deeds_of_row (holds r) (row_at x r)

-- the engine after a step
unfoldable pub stepped : ℕ → Stimulus → SinkRecord → SinkRecord
stepped now x r = all_after (deeds_at x (before_row x r)) now x (before_row x r)

-- what a step wants of the port, in order
unfoldable pub acts_of : ℕ → Stimulus → SinkRecord → List Act
acts_of now x r = all_wants (deeds_at x (before_row x r)) now x (before_row x r)

-- whether messages reach the engine
abbrev pub hears_in : SinkRecord → Bool
hears_in r = hears r.state where
  hears : State → Bool
  hears state.Off = false
  hears state.Disabled = false
  hears _ = true

-- whether the engine is in Ready
abbrev pub is_ready : SinkRecord → Bool
is_ready r = ready r.state where
  ready : State → Bool
  ready state.Ready = true
  ready _ = false

-- the revision bits of what the sink sends: those of its revision, and 10 while none is attached
abbrev pub revision_bits : SinkRecord → ℕ
revision_bits r = of r.sink where
  of : Option SinkData → ℕ
  of None = 2
  of (Some sink) = bits_of sink.revision
