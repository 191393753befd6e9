-- That what is watched of the ports is so.
use Rattle.std.specs.Prelude.{◌≡◌, ℕ, ◌+◌, ◌<◌, true, List, [], map, is_some, Some}
use Rattle.pd_packet.specs.Contents.{Contents}
use Rattle.pd_packet.specs.declared.fate.Fate.{Fate}
use Rattle.pd_header.specs.declared.side.Side.{Side}
use Rattle.pd_line.specs.declared.notes.Start.TheVariants as start
use Rattle.pd_line.specs.Lines.{fate_of}
use Rattle.pd_port.specs.Port.{PortRecord}
use Rattle.pd_scenario.specs.Plan.{Plan, count}
use Rattle.pd_run.specs.Order.{EachAfter}
use Rattle.pd_run.specs.Run.{GoesOn, Move, shown, standing}
use Rattle.pd_watch.specs.declared.watch.Disturber.{Disturber}
use Rattle.pd_watch.specs.Watch.{WatchData, after_steps, all_at_rest, disturber_of, is_disturbed, watch_at}

-- what the disturbance of an event makes of a packet
abbrev pub made_by : Disturber → Fate
made_by d = d.fate

-- a port is watched as its record has it: something is attached or nothing, and what the disturbances that wait make of packets is what
-- those of the events that are watched do, in the same order
pub record IsWatched (w : WatchData) (r : PortRecord) : Type 0 where
  pub attached : w.attached ≡ is_some r.cable
  pub in_step : map made_by w.waiting ≡ map fate_of r.disturbances

-- After moves of which each goes on from those before it, each port is watched as these moves have left it. So a disturbance that is
-- told to meet no packet still waits on its port, at the run's end or as the cable is pulled out.
abbrev pub PortsAreWatched : Type 0
PortsAreWatched =
    (plan : Plan) (moves : List Move) → EachAfter (GoesOn plan) [] moves → (p : ℕ) → p < count plan
    → IsWatched (watch_at (after_steps (all_at_rest (count plan)) (map shown moves)) (p + 1)) (standing plan moves p).state

-- Where a move that goes on from such moves starts a packet that is lost or damaged, an event is named, and what becomes of the packet
-- is what the disturbance of that event makes of it.
abbrev pub TakersAreNamed : Type 0
TakersAreNamed =
    (plan : Plan) (past : List Move) (m : Move) → EachAfter (GoesOn plan) [] past → GoesOn plan past m
    → (side : Side) (packet : Contents) (fate : Fate) → m.entry.start ≡ Some (start.Packet side packet fate) → is_disturbed fate ≡ true
    → (d : Disturber)
    × (disturber_of (watch_at (after_steps (all_at_rest (count plan)) (map shown past)) (m.port + 1)) m.entry ≡ Some d)
    × (d.fate ≡ fate)
