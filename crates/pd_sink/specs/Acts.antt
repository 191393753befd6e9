-- What each act of a row does to the engine, and what it wants of the port.
use Rattle.std.specs.Prelude.{ℕ, ◌+◌, min, Bool, true, false, if◌then◌else◌, List, [], ◌∷◌, ◌++◌, Option, Some, None}
use Rattle.pd_timers.specs.declared.Timer.{Timer}
use Rattle.pd_timers.specs.Deadlines.{idle, started}
use Rattle.pd_timers.specs.SinkDeadlines.{timer_of}
use Rattle.pd_sink.specs.declared.kinds.Stimulus.{Stimulus}
use Rattle.pd_sink.specs.declared.kinds.Stimulus.TheVariants as stimulus
use Rattle.pd_sink.specs.declared.kinds.Message.{Message}
use Rattle.pd_sink.specs.declared.kinds.Message.TheVariants as message
use Rattle.pd_sink.specs.declared.kinds.Note.TheVariants as note
use Rattle.pd_sink.specs.declared.kinds.Sending.{Sending}
use Rattle.pd_sink.specs.declared.kinds.Sending.TheVariants as sending
use Rattle.pd_sink.specs.declared.kinds.Act.{Act}
use Rattle.pd_sink.specs.declared.kinds.Act.TheVariants as act
use Rattle.pd_sink.specs.declared.kinds.Deed.{Deed}
use Rattle.pd_sink.specs.declared.kinds.Deed.TheVariants as deed
use Rattle.pd_sink.specs.declared.rule.Asked.{Asked}
use Rattle.pd_setup.specs.Sinks.{SinkData}
use Rattle.pd_sink.specs.Choice.{asked_of}
use Rattle.pd_sink.specs.Objects.{request_object, sink_capabilities}
use Rattle.pd_sink.specs.Record.{SinkRecord}

-- a counter rises up to its greatest value and then stays
abbrev pub rise : ℕ → ℕ
rise n = min (n + 1) 255

-- the offer that is kept, after a stimulus
abbrev pub offer_from : Stimulus → List ℕ → List ℕ
offer_from (stimulus.SourceCapabilities objects) old = objects.items
offer_from _ old = old

-- the deadlines after a timer is started, where it is
abbrev pub started_where : Bool → List (Option ℕ) → ℕ → Timer → List (Option ℕ)
started_where true deadlines now t = started deadlines now t
started_where false deadlines now t = deadlines

-- the engine after an act
abbrev pub after : Deed → ℕ → Stimulus → SinkRecord → SinkRecord
after (deed.Enter s) now x r = record r { state = s; deadlines = idle; sent = false }
after (deed.Start t) now x r = record r { deadlines = started r.deadlines now (timer_of t) }
after (deed.StartWhereAgain t) now x r = record r { deadlines = started_where r.again r.deadlines now (timer_of t) }
after (deed.StartWhereFresh t) now x r = record r { deadlines = started_where r.fresh r.deadlines now (timer_of t) }
after deed.KeepOffer now x r = record r { kept_offer = offer_from x r.kept_offer }
after (deed.Again b) now x r = record r { again = b }
after (deed.Fresh b) now x r = record r { fresh = b }
after (deed.Contract b) now x r = record r { has_contract = b }
after deed.HardResetCounterUp now x r = record r { hard_reset_counter = rise r.hard_reset_counter }
after deed.HardResetCounterZero now x r = record r { hard_reset_counter = 0 }
after _ now x r = r

-- what the sink that is attached asks of the kept offer
abbrev pub asked_in : SinkRecord → Option Asked
asked_in r = asked r.sink where
  asked : Option SinkData → Option Asked
  asked None = None
  asked (Some sink) = asked_of sink r.kept_offer

-- whether the request that is sent has the mismatch bit
abbrev pub is_mismatch : Option Asked → Bool
is_mismatch None = false
is_mismatch (Some asked) = asked.mismatch

-- the Request, where there is something to ask
abbrev pub request_of : Option Asked → Option Sending
request_of None = None
request_of (Some asked) = Some (sending.Request (request_object asked))

-- the Sink_Capabilities of the sink that is attached
abbrev pub capabilities_of : Option SinkData → Option Sending
capabilities_of None = None
capabilities_of (Some sink) = Some (sending.SinkCapabilities (record { items = sink_capabilities sink }))

-- the message with its objects
abbrev pub sending_of : Message → SinkRecord → Option Sending
sending_of message.Request r = request_of (asked_in r)
sending_of message.GetSourceCap r = Some sending.GetSourceCap
sending_of message.SinkCapabilities r = capabilities_of r.sink
sending_of message.Accept r = Some sending.Accept
sending_of message.SoftReset r = Some sending.SoftReset

abbrev pub send : Option Sending → List Act
send None = []
send (Some s) = act.Send s ∷ []

-- what an act wants of the port
abbrev pub wants : Deed → SinkRecord → List Act
wants (deed.Enter s) r = act.DropWaiting ∷ []
wants deed.ResetLayer r = act.ResetLayer ∷ []
wants (deed.Note n) r = act.Note n ∷ []
wants deed.NoteMismatch r = if is_mismatch (asked_in r) then act.Note note.Mismatch ∷ [] else []
wants (deed.Send m) r = send (sending_of m r)
wants deed.SendHardReset r = act.SendHardReset ∷ []
wants _ r = []

-- the engine after all acts of a row, in order
abbrev pub all_after : List Deed → ℕ → Stimulus → SinkRecord → SinkRecord
all_after [] now x r = r
all_after (d ∷ ds) now x r = all_after ds now x (after d now x r)

-- what all acts of a row want of the port
abbrev pub all_wants : List Deed → ℕ → Stimulus → SinkRecord → List Act
all_wants [] now x r = []
all_wants (d ∷ ds) now x r = wants d r ++ all_wants ds now x (after d now x r)

-- how many faults an act brings
abbrev pub fault_count_of : Act → ℕ
fault_count_of (act.Note n) = 1
fault_count_of _ = 0

abbrev pub fault_count : List Act → ℕ
fault_count [] = 0
fault_count (a ∷ acts) = fault_count_of a + fault_count acts
