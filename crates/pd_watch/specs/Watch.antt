-- What is watched of a port along a run: whether something is attached, and which disturbances wait for a packet. Each disturbance
-- that isn't ignored waits behind the others; each packet that starts lost or damaged has taken the first; a cable that is pulled out
-- leaves none.
use Rattle.std.specs.Prelude.{ℕ, ◌+◌, ◌-◌, Bool, true, false, List, [], ◌∷◌, ◌++◌, drop, Option, None, Some, replicate}
use Rattle.std.specs.Prelude.{if◌then◌else◌, slice_index_or, slice_set}
use Rattle.std.specs.List.{list_any}
use Rattle.pd_packet.specs.declared.fate.Fate.{Fate}
use Rattle.pd_packet.specs.declared.fate.Fate.TheVariants.{Damaged, Lost, Undisturbed}
use Rattle.pd_setup.specs.Events.{PortEventKind}
use Rattle.pd_setup.specs.declared.event.EventKind.TheVariants.{Attach, Detach, Lose, Damage}
use Rattle.pd_setup.specs.declared.event.Happening.{Happening}
use Rattle.pd_setup.specs.declared.event.Happening.TheVariants as happening
use Rattle.pd_line.specs.declared.notes.Fault.{Fault}
use Rattle.pd_line.specs.declared.notes.Fault.TheVariants.{Ignored as FaultIgnored}
use Rattle.pd_line.specs.declared.notes.Start.{Start}
use Rattle.pd_line.specs.declared.notes.Start.TheVariants as start
use Rattle.pd_port.specs.declared.due.What.{What}
use Rattle.pd_port.specs.declared.due.What.TheVariants as what
use Rattle.pd_port.specs.declared.entry.Entry.{Entry}
use Rattle.pd_watch.specs.declared.watch.Disturber.{Disturber}

-- whether something is attached, and the events whose disturbances wait, the first to come first
pub record WatchData : Type 0 where
  pub attached : Bool
  pub waiting : List Disturber

-- a port at the start
abbrev pub at_rest : WatchData
at_rest = record { attached = false; waiting = [] }

-- ---- what a step tells

abbrev pub ignores : Fault → Bool
ignores (FaultIgnored id) = true
ignores _ = false

abbrev pub is_ignored : Entry → Bool
is_ignored e = list_any ignores e.faults.items

abbrev pub is_disturbed : Fate → Bool
is_disturbed Undisturbed = false
is_disturbed _ = true

-- an event that is to make this of a packet waits behind the others
abbrev pub with_disturber : WatchData → ℕ → ℕ → Fate → WatchData
with_disturber w at id fate = record w { waiting = w.waiting ++ record { id = id; at = at; fate = fate } ∷ [] }

-- an event that the port doesn't ignore
abbrev pub after_kind : WatchData → ℕ → ℕ → PortEventKind → WatchData
after_kind w at id (Attach cable device) = record w { attached = true }
after_kind w at id Detach = at_rest
after_kind w at id Lose = with_disturber w at id Lost
after_kind w at id (Damage harm) = with_disturber w at id (Damaged harm)
after_kind w at id _ = w

abbrev pub after_happening : WatchData → ℕ → Bool → Happening → WatchData
after_happening w at true h = w
after_happening w at false (happening.Port id kind) = after_kind w at id kind
after_happening w at false happening.Budget = w

abbrev pub after_what : WatchData → ℕ → Bool → What → WatchData
after_what w at ignored (what.Event e) = after_happening w at ignored e.happening
after_what w at ignored _ = w

-- what starts on the line
abbrev pub after_start : WatchData → Option Start → WatchData
after_start w (Some (start.Packet side packet fate)) = if is_disturbed fate then record w { waiting = drop 1 w.waiting } else w
after_start w _ = w

-- what is watched of a port after a step
unfoldable pub after_entry : WatchData → Entry → WatchData
after_entry w e = after_start (after_what w e.at (is_ignored e) e.due.what) e.start

-- ---- whose disturbance a packet takes

abbrev pub first_of : List Disturber → Option Disturber
first_of [] = None
first_of (d ∷ ds) = Some d

-- the event whose disturbance the packet that starts takes, where it is lost or damaged
abbrev pub taken_by : WatchData → Option Start → Option Disturber
taken_by w (Some (start.Packet side packet fate)) = if is_disturbed fate then first_of w.waiting else None
taken_by w _ = None

abbrev pub id_of : Option Disturber → Option ℕ
id_of None = None
id_of (Some d) = Some d.id

-- and of a step
unfoldable pub disturber_of : WatchData → Entry → Option Disturber
disturber_of w e = taken_by (after_what w e.at (is_ignored e) e.due.what) e.start

-- ---- all ports

-- what is watched of a port, the ports being numbered from 1 here
abbrev pub watch_at : List WatchData → ℕ → WatchData
watch_at ws port = slice_index_or ws (port - 1) at_rest

-- what is watched of the ports after a step of one of them
unfoldable pub after_step : List WatchData → ℕ × Entry → List WatchData
after_step ws (port, e) = slice_set ws (port - 1) (after_entry (watch_at ws port) e)

abbrev pub after_steps : List WatchData → List (ℕ × Entry) → List WatchData
after_steps ws [] = ws
after_steps ws (s ∷ steps) = after_steps (after_step ws s) steps

-- so many ports at the start
abbrev pub all_at_rest : ℕ → List WatchData
all_at_rest n = replicate n at_rest
