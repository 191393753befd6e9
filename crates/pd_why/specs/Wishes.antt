-- By what a sink chooses what it asks for: the sink and the offer that its engine keeps in the step in which it sends a Request. That step
-- leads to PE_SNK_Select_Capability (docs/TABLES.md, RQ). It fixes the message's objects, which wait until the line is idle.
use Rattle.std.specs.Prelude.{ℕ, not, ◌&&◌, Bool, true, false, List, [], Option, Some, None, option_map}
use Rattle.pd_header.specs.declared.side.Side.{Side}
use Rattle.pd_setup.specs.Sinks.{SinkData}
use Rattle.pd_sink.specs.declared.kinds.State.{State}
use Rattle.pd_sink.specs.declared.kinds.State.TheVariants as state
use Rattle.pd_sink.specs.Choice.{asked_of}
use Rattle.pd_sink.specs.declared.kinds.Sending.{Sending}
use Rattle.pd_sink.specs.Acts.{request_of}
use Rattle.pd_sink.specs.Record.{SinkRecord}
use Rattle.pd_line.specs.Told.{sink_sends}
use Rattle.pd_line.specs.declared.port_parts.Line.{Line}
use Rattle.pd_line.specs.declared.port_parts.Line.TheVariants as line
use Rattle.pd_line.specs.Lines.{is_side}
use Rattle.pd_port.specs.declared.due.What.{What}
use Rattle.pd_port.specs.declared.due.What.TheVariants as what
use Rattle.pd_why.specs.declared.wish.Wish.{Wish}

abbrev pub is_select : State → Bool
is_select state.SelectCapability = true
is_select s = false

-- the sink's engine sends a Request in a step between these states of it
abbrev pub asks_in : State → State → Bool
asks_in before after = not (is_select before) && is_select after

-- the sink that an engine knows, and the objects of the offer that it keeps
abbrev pub wish_of : SinkRecord → Option Wish
wish_of r = option_map (λ (s : SinkData). record { sink = s; offer = r.kept_offer }) r.sink

-- the line waits for the GoodCRC of this side's message
abbrev pub awaits : Side → Line → Bool
awaits by (line.NoAnswer side packet end) = is_side side by
awaits by l = false

-- where that time is over, a packet of this side that starts is the one before, sent again
abbrev pub is_again : Side → What → Line → Bool
is_again by what.Line l = awaits by l
is_again by w l = false

-- the objects of what a sink sends, where it sends anything
abbrev pub sent_with : Option Sending → List ℕ
sent_with None = []
sent_with (Some sending) = (sink_sends sending).1

-- the objects of the Request that the sink's rule gives for its wish
abbrev pub request_by : Option Wish → List ℕ
request_by None = []
request_by (Some w) = sent_with (request_of (asked_of w.sink w.offer))
