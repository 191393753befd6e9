-- Which packets of a run are tried.
use Rattle.std.specs.Prelude.{ℕ, ◌==◌, ◌&&◌, nat_le, Bool, true, false, List, [], ◌∷◌, if◌then◌else◌, bytes_eq, Option, Some, None}
use Rattle.std.specs.List.{flat_map}
use Rattle.pd_header.specs.Kinds.{kind_of_header, name_of}
use Rattle.pd_header.specs.declared.kind.Kind.{Kind}
use Rattle.pd_packet.specs.declared.fate.Fate.{Fate}
use Rattle.pd_packet.specs.declared.fate.Fate.TheVariants.{Undisturbed}
use Rattle.pd_line.specs.declared.notes.Start.{Start}
use Rattle.pd_line.specs.declared.notes.Start.TheVariants as start
use Rattle.pd_port.specs.declared.entry.Entry.{Entry}
use Rattle.pd_sweep.specs.declared.choice.Choice.{Choice}
use Rattle.pd_sweep.specs.declared.packets.Target.{Target}

-- a packet doesn't arrive as it was sent
abbrev pub is_disturbed : Fate → Bool
is_disturbed Undisturbed = false
is_disturbed _ = true

-- the packet that starts on a port at a time, if one does
abbrev pub packet_at : ℕ → ℕ → Option Start → Option Target
packet_at port at None = None
packet_at port at (Some (start.HardReset side)) = None
packet_at port at (Some (start.Packet side packet fate)) = Some (record {
  at = at;
  port = port;
  side = side;
  channel = packet.channel;
  header = packet.header;
  disturbed = is_disturbed fate;
})

-- the port is the one that is chosen, or all are
abbrev pub is_of_port : Option ℕ → ℕ → Bool
is_of_port None port = true
is_of_port (Some chosen) port = chosen == port

-- the message is one of the kind that is chosen, or all are
abbrev pub is_of_kind : Option Kind → Kind → Bool
is_of_kind None kind = true
is_of_kind (Some chosen) kind = bytes_eq (name_of chosen) (name_of kind)

-- the packet is tried
abbrev pub is_chosen : Choice → Target → Bool
is_chosen choice t =
    is_of_port choice.port t.port && nat_le choice.from t.at && nat_le t.at choice.to && is_of_kind choice.kind (kind_of_header t.header)

abbrev pub chosen_packet : Choice → Option Target → List Target
chosen_packet choice None = []
chosen_packet choice (Some t) = if is_chosen choice t then t ∷ [] else []

-- what is tried of an entry of a port, the ports being numbered from 1
unfoldable pub chosen_of : Choice → ℕ × Entry → List Target
chosen_of choice move = chosen_packet choice (packet_at move.0 move.1.at move.1.start)

-- the packets of a run that are tried, in the run's order
abbrev pub chosen : Choice → List (ℕ × Entry) → List Target
chosen choice moves = flat_map (chosen_of choice) moves
