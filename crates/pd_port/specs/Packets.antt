-- Packets in a port's steps: a lost or a damaged packet reaches nobody, and a packet that starts is on the line with the codes
-- that it shows.
use Rattle.std.specs.Prelude.{◌≡◌, ◌⊎◌, ℕ, ◌+◌, Option, None}
use Rattle.pd_header.specs.declared.side.Side.{Side}
use Rattle.pd_objects.specs.declared.query.Answer.{Answer}
use Rattle.pd_packet.specs.Contents.{Contents, IsPacket}
use Rattle.pd_packet.specs.Damage.{IsDamage}
use Rattle.pd_packet.specs.Hearing.{heard, received, shown}
use Rattle.pd_packet.specs.declared.fate.Fate.{Fate}
use Rattle.pd_packet.specs.declared.fate.Fate.TheVariants.{Undisturbed, Lost, Damaged}
use Rattle.pd_setup.specs.Settings.{SettingsData}
use Rattle.pd_line.specs.declared.port_parts.Line.TheVariants.{Message, GoodCrc, NoAnswer}
use Rattle.pd_line.specs.Lines.{time_out, rest_of_time_out, receiver, with_line, goes_up, start_on}
use Rattle.pd_port.specs.declared.due.Due.{Due}
use Rattle.pd_port.specs.declared.due.What.TheVariants as what
use Rattle.pd_port.specs.Port.{PortRecord, begun, portstep, whole, record_after, entry_of}

-- a packet is lost, or damaged
abbrev pub IsDisturbed : Fate → Type 0
IsDisturbed Undisturbed = ⊥
IsDisturbed Lost = Unit {0}
IsDisturbed (Damaged d) = IsDamage d

-- what is on the line ends at t
abbrev pub end_of_line : ℕ → Due
end_of_line t = record { time = t; what = what.Line }

-- A lost or a damaged packet reaches nobody. Where a disturbed message ends, all of the port stays but the line, on which the
-- sender's time-out runs. Where a disturbed GoodCRC ends, the time-out runs too, and the step does no more than to hand the
-- message, which was heard, to its receiver: the sender isn't told.
pub record DisturbedReachNobody : Type 0 where
  pub message : (s : SettingsData) (r : PortRecord) (given : Option Answer) (t end : ℕ) (side : Side) (p : Contents) (fate : Fate) →
      IsPacket p → IsDisturbed fate → r.line ≡ Message side p fate end →
      record_after s r (end_of_line t) given ≡ record r { line = NoAnswer side p (t + time_out) }
  pub good_crc : (s : SettingsData) (r : PortRecord) (given : Option Answer) (t end : ℕ) (side : Side) (p a : Contents) (fate : Fate) →
      IsPacket a → IsDisturbed fate → r.line ≡ GoodCrc side p a fate end →
      portstep (whole s r) (end_of_line t) given
      ≡ goes_up (receiver side p.channel) p t (with_line (NoAnswer side p (t + rest_of_time_out)) (begun (whole s r) given))

-- A packet that starts in a step is on the line after it, with its fate, or a side's Hard Reset is. A side that hears gets the
-- packet of the codes that are shown for it, or nothing.
pub record StartsAreOnTheLine : Type 0 where
  pub start : (s : SettingsData) (r : PortRecord) (d : Due) (given : Option Answer) →
      ((entry_of s r d given).start ≡ None) ⊎ ((entry_of s r d given).start ≡ start_on (record_after s r d given).line)
  pub codes : (p : Contents) (fate : Fate) → (heard p fate ≡ None) ⊎ (heard p fate ≡ received (shown p fate))
