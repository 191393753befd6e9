-- What each event does to a port.
use Rattle.std.specs.Prelude.{ℕ, nat_lt, Bool, true, false, if◌then◌else◌, is_some, [], ◌∷◌, ◌++◌, length, Option, Some, None}
use Rattle.pd_objects.specs.declared.query.Answer.{Answer}
use Rattle.pd_objects.specs.declared.query.Answer.TheVariants as answer
use Rattle.pd_setup.specs.Events.{PortEventKind}
use Rattle.pd_setup.specs.declared.event.EventKind.TheVariants.{Attach, Detach, Demand, Lose, Damage, GetSource, GetSink}
use Rattle.pd_setup.specs.declared.event.Happening.{Happening}
use Rattle.pd_setup.specs.declared.event.Happening.TheVariants.{Port, Budget}
use Rattle.pd_source.specs.Step as source
use Rattle.pd_source.specs.declared.kinds.Stimulus.TheVariants as source_told
use Rattle.pd_sink.specs.Step as sink
use Rattle.pd_sink.specs.declared.kinds.Stimulus.TheVariants as sink_told
use Rattle.pd_line.specs.declared.notes.Fault.TheVariants.{Ignored}
use Rattle.pd_line.specs.declared.disturbances.Disturbance.{Disturbance}
use Rattle.pd_line.specs.declared.disturbances.Disturbance.TheVariants.{Lost, Damaged}
use Rattle.pd_line.specs.declared.port_step.PortStep.{PortStep}
use Rattle.pd_line.specs.Record.{with_settings, nothing_attached}
use Rattle.pd_line.specs.PortStep.{with_port, noted, sink_steps, source_steps, tells_attach}
use Rattle.pd_port.specs.declared.due.What.{What}
use Rattle.pd_port.specs.declared.due.What.TheVariants as what

-- the cable is pulled out: the record is that of a detached port again, the disturbances that wait included
unfoldable pub detaches : PortStep → PortStep
detaches w = let set = w.port.source.settings in with_port (with_settings set (nothing_attached set)) w

-- a disturbance waits behind the others, of which there are at most eight
unfoldable pub disturbs : ℕ → Disturbance → PortStep → PortStep
disturbs id d w =
    if nat_lt (length w.port.disturbances) 8
    then with_port (record w.port { disturbances = w.port.disturbances ++ d ∷ [] }) w
    else noted (Ignored id) w

-- the sink is to ask for the source's capabilities, which it does in Ready
unfoldable pub gets_source : ℕ → ℕ → PortStep → PortStep
gets_source id t w = if sink.is_ready w.port.sink then sink_steps t sink_told.GetSource w else noted (Ignored id) w

-- the source is to ask for the sink's capabilities, which it does in Ready
unfoldable pub gets_sink : ℕ → ℕ → PortStep → PortStep
gets_sink id t w = if source.is_ready w.port.source.record then source_steps t source_told.GetSink w else noted (Ignored id) w

-- an event while a sink is attached
abbrev pub happens_attached : ℕ → PortEventKind → ℕ → PortStep → PortStep
happens_attached id (Attach cable device) t w = noted (Ignored id) w
happens_attached id Detach t w = detaches w
happens_attached id (Demand mw) t w = sink_steps t (sink_told.Demand mw) w
happens_attached id Lose t w = disturbs id Lost w
happens_attached id (Damage d) t w = disturbs id (Damaged d) w
happens_attached id GetSource t w = gets_source id t w
happens_attached id GetSink t w = gets_sink id t w

-- an event while nothing is attached
abbrev pub happens_detached : ℕ → PortEventKind → ℕ → PortStep → PortStep
happens_detached id (Attach cable device) t w = tells_attach cable device t w
happens_detached id kind t w = noted (Ignored id) w

-- an event of the port
abbrev pub port_event_happens : ℕ → PortEventKind → ℕ → PortStep → PortStep
port_event_happens id kind t w =
    if is_some w.port.cable then happens_attached id kind t w else happens_detached id kind t w

-- the port sheds its hold where it may not stay
abbrev pub shed : Option Answer → ℕ → PortStep → PortStep
shed (Some (answer.Fits false)) t w = source_steps t source_told.Shed w
shed a t w = w

-- the shared budget has changed: the answer is whether the port's hold may stay, and goes to no engine
unfoldable pub budget_changes : ℕ → PortStep → PortStep
budget_changes t w = shed w.answer t (record w { answer = None })

-- what an event does
abbrev pub event_happens : Happening → ℕ → PortStep → PortStep
event_happens (Port id kind) t w = port_event_happens id kind t w
event_happens Budget t w = budget_changes t w

abbrev pub changes_budget : Happening → Bool
changes_budget (Port id kind) = false
changes_budget Budget = true

-- whether a change of the shared budget falls due
abbrev pub is_budget : What → Bool
is_budget (what.Event e) = changes_budget e.happening
is_budget _ = false

abbrev pub pulls_out : PortEventKind → Bool
pulls_out Detach = true
pulls_out _ = false

abbrev pub pulls_cable : Happening → Bool
pulls_cable (Port id kind) = pulls_out kind
pulls_cable Budget = false

-- whether the cable is to be pulled out
abbrev pub is_detach : What → Bool
is_detach (what.Event e) = pulls_cable e.happening
is_detach _ = false
