-- One port: what falls due on it next, what it asks before its step, the step, and what it holds of the shared budget.
use Rattle.std.specs.Prelude.{ℕ, ◌+◌, ◌*◌, ◌==◌, nat_lt, Bool, true, false, ◌&&◌, ◌||◌, if◌then◌else◌, List, [], ◌∷◌, Option}
use Rattle.std.specs.Prelude.{Some, None, option_and_then}
use Rattle.pd_header.specs.declared.side.Side.{Side}
use Rattle.pd_header.specs.declared.side.Side.TheVariants.{Source, Sink, Plug}
use Rattle.pd_objects.specs.declared.query.Query.{Query}
use Rattle.pd_objects.specs.declared.query.Query.TheVariants as query
use Rattle.pd_objects.specs.declared.query.Answer.{Answer}
use Rattle.pd_timers.specs.declared.Timer.{Timer}
use Rattle.pd_timers.specs.Timers.{place}
use Rattle.pd_timers.specs.Deadlines.{first_of}
use Rattle.pd_source.specs.Record.{SourceSettings}
use Rattle.pd_source.specs.Step as source
use Rattle.pd_source.specs.declared.kinds.Stimulus.{Stimulus}
use Rattle.pd_setup.specs.Events.{EventData}
use Rattle.pd_setup.specs.Settings.{SettingsData, floor_of}
use Rattle.pd_line.specs.declared.port_parts.PortParts.{PortParts}
use Rattle.pd_line.specs.declared.port_step.PortStep.{PortStep}
pub use Rattle.pd_line.specs.Record.{PortRecord}
use Rattle.pd_line.specs.Record.{with_settings, without_settings, nothing_attached}
use Rattle.pd_line.specs.Later.{line_end}
use Rattle.pd_line.specs.PortStep.{tells_timer}
use Rattle.pd_line.specs.Lines.{line_ends, line_starts}
use Rattle.pd_port.specs.declared.due.Due.{Due}
use Rattle.pd_port.specs.declared.due.What.{What}
use Rattle.pd_port.specs.declared.due.What.TheVariants as what
use Rattle.pd_port.specs.declared.entry.Entry.{Entry}
use Rattle.pd_port.specs.Changes.{contract_change}
use Rattle.pd_port.specs.Happens.{event_happens, is_budget}
use Rattle.pd_port.specs.SourceTold.{source_told}

-- what a port is set to, and what it keeps from step to step
pub record PortData : Type 0 where
  pub settings : SettingsData
  pub port_record : PortRecord

abbrev pub side_place : Side → ℕ
side_place Source = 0
side_place Sink = 1
side_place Plug = 2

-- the order at one time: the event, the line, the timers in their order, and in each timer source, sink, plug
abbrev pub rank : What → ℕ
rank (what.Event e) = 0
rank what.Line = 1
rank (what.Timer side timer) = 2 + 3 * place timer + side_place side

-- whether something falls due before something else
unfoldable pub is_before : Due → Due → Bool
is_before a b = nat_lt a.time b.time || (a.time == b.time && nat_lt (rank a.what) (rank b.what))

abbrev pub earlier : Option Due → Option Due → Option Due
earlier None b = b
earlier (Some a) None = Some a
earlier (Some a) (Some b) = if is_before b a then Some b else Some a

abbrev pub event_due : Option EventData → Option Due
event_due None = None
event_due (Some e) = Some (record { time = e.at; what = what.Event e })

abbrev pub line_due : Option ℕ → Option Due
line_due None = None
line_due (Some end) = Some (record { time = end; what = what.Line })

abbrev pub timer_due : Side → Option (ℕ × Timer) → Option Due
timer_due side None = None
timer_due side (Some (time, timer)) = Some (record { time = time; what = what.Timer side timer })

abbrev pub earliest : List (Option Due) → Option Due
earliest [] = None
earliest (d ∷ ds) = earlier d (earliest ds)

-- all that is due: the next event, the line's end, and each engine's first deadline
abbrev pub dues : PortRecord → Option EventData → List (Option Due)
dues r next =
    event_due next ∷ line_due (line_end r.line) ∷ timer_due Source (first_of r.source.deadlines)
    ∷ timer_due Sink (first_of r.sink.deadlines) ∷ timer_due Plug (first_of r.plug.deadlines) ∷ []

-- the earliest of them
unfoldable pub due : PortRecord → Option EventData → Option Due
due r next = earliest (dues r next)

-- whether an event falls due
abbrev pub is_event : What → Bool
is_event (what.Event e) = true
is_event _ = false

-- what falls due happens
abbrev pub happens : What → ℕ → PortStep → PortStep
happens (what.Event e) t w = event_happens e.happening t w
happens what.Line t w = line_ends t w
happens (what.Timer side timer) t w = tells_timer side timer t w

-- a step that begins
abbrev pub begun : PortParts → Option Answer → PortStep
begun r given = record { port = r; answer = given; faults = record { items = [] }; start = None }

-- the step for this due: it happens, and then, where the line is idle, what waits starts
unfoldable pub portstep : PortParts → Due → Option Answer → PortStep
portstep r d given = line_starts d.time (happens d.what d.time (begun r given))

-- what the source is set to
abbrev pub source_settings : SettingsData → SourceSettings
source_settings s = record { supplies = s.supplies; identity_tries = s.identity_tries; unconstrained = s.unconstrained }

-- what a port of this floor in mW is set to, of what its source is set to
abbrev pub set_to : ℕ → SourceSettings → SettingsData
set_to floor_mw s =
    record { floor_mw = floor_mw; supplies = s.supplies; identity_tries = s.identity_tries; unconstrained = s.unconstrained }

-- and of all that it keeps
abbrev pub settings_of : ℕ → PortParts → SettingsData
settings_of floor_mw r = set_to floor_mw r.source.settings

abbrev pub whole : SettingsData → PortRecord → PortParts
whole s r = with_settings (source_settings s) r

-- the record at the start
unfoldable pub detached : SettingsData → PortRecord
detached s = nothing_attached (source_settings s)

-- the record after the step for this due, with this answer of the shared budget
unfoldable pub record_after : SettingsData → PortRecord → Due → Option Answer → PortRecord
record_after s r d given = without_settings (portstep (whole s r) d given).port

-- what the port holds of the shared budget, in microwatts
unfoldable pub hold : SettingsData → PortRecord → ℕ
hold s r = source.hold_of (source_settings s) (floor_of s) r.source

-- what the source asks before it is stepped with this
abbrev pub asks : PortParts → Option Stimulus → Option Query
asks r x = option_and_then (λ y. source.query_of r.source.settings y r.source.record) x

-- What the port asks of the shared budget before the step for this due: where the budget has changed, whether its hold
-- may stay, and else what its source asks.
unfoldable pub ask : SettingsData → PortRecord → Due → Option Query
ask s r d = if is_budget d.what then Some (query.Keep (hold s r)) else asks (whole s r) (source_told d.what (whole s r))

-- what the step for this due leaves to be read
unfoldable pub entry_of : SettingsData → PortRecord → Due → Option Answer → Entry
entry_of s r d given =
    let w = portstep (whole s r) d given in
    record {
      at = d.time;
      due = d;
      query = ask s r d;
      faults = w.faults;
      contract = contract_change r.source.contract w.port.source.record.contract;
      start = w.start;
    }
