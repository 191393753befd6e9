-- What is shown of a run.
use Rattle.std.specs.Prelude.{ℕ, ◌==◌, ◌&&◌, not, nat_le, Bool, true, false, Option, Some, None}
use Rattle.pd_header.specs.Kinds.{kind_of_header}
use Rattle.pd_header.specs.declared.kind.Kind.{Kind}
use Rattle.pd_header.specs.declared.kind.Kind.TheVariants.{GoodCrc}
use Rattle.pd_line.specs.declared.notes.Start.{Start}
use Rattle.pd_line.specs.declared.notes.Start.TheVariants as start
use Rattle.pd_show.specs.declared.choice.Choice.{Choice}
use Rattle.pd_show.specs.declared.choice.Form.TheVariants.{Words}

-- all there is to show, as words: every port and time, GoodCRC messages too, and no codes
abbrev pub whole : Choice
whole = record { port = None; from = 0; to = 18446744073709551615; good_crc = true; codes = false; form = Words }

-- the port is the one that is chosen, or all are
abbrev pub is_of_port : Option ℕ → ℕ → Bool
is_of_port None port = true
is_of_port (Some chosen) port = chosen == port

-- what a port says at a time is shown
abbrev pub is_chosen : Choice → ℕ → ℕ → Bool
is_chosen choice port at = is_of_port choice.port port && nat_le choice.from at && nat_le at choice.to

abbrev pub good_crc : Kind → Bool
good_crc GoodCrc = true
good_crc _ = false

-- what starts on the line is passed over: GoodCRC messages where they aren't wanted
abbrev pub hides : Choice → Start → Bool
hides choice (start.Packet side packet fate) = not choice.good_crc && good_crc (kind_of_header packet.header)
hides choice (start.HardReset side) = false
