-- How the limit of a port's cable is known (docs/TABLES.md, rows S2 to S9).
use Rattle.std.specs.Prelude.{◌≡◌, ℕ, ◌==◌, Bool, true, false, if◌then◌else◌, Option, Some, None}
use Rattle.pd_timers.specs.declared.Timer.TheVariants as timer
use Rattle.pd_identity.specs.Identity.{limit_of, reply_of}
use Rattle.pd_identity.specs.declared.identity.Reply.{Reply}
use Rattle.pd_identity.specs.declared.identity.Reply.TheVariants as reply
use Rattle.pd_source.specs.declared.kinds.State.{State}
use Rattle.pd_source.specs.declared.kinds.State.TheVariants as state
use Rattle.pd_source.specs.declared.kinds.Stimulus.{Stimulus}
use Rattle.pd_source.specs.declared.kinds.Stimulus.TheVariants as stimulus
use Rattle.pd_source.specs.Record.{cable_current}
use Rattle.pd_line.specs.declared.port_parts.Line.{Line}
use Rattle.pd_line.specs.declared.port_parts.Line.TheVariants as line
use Rattle.pd_port.specs.declared.due.What.{What}
use Rattle.pd_port.specs.declared.due.What.TheVariants as what
use Rattle.pd_why.specs.declared.cable.CableLimit.{CableLimit}
use Rattle.pd_why.specs.declared.cable.CableLimit.TheVariants as known

-- of a cable that is asked so often, and of which the source has learnt nothing yet
abbrev pub unlearnt : ℕ → CableLimit
unlearnt tries = if tries == 0 then known.NotAsked else known.Unknown

-- and where it has learnt something
abbrev pub how_known : ℕ → Option CableLimit → CableLimit
how_known tries None = unlearnt tries
how_known tries (Some how) = how

abbrev pub by_reply : Reply → CableLimit
by_reply reply.Ack = known.Told
by_reply reply.Nak = known.Nak
by_reply reply.Busy = known.Busy

-- by what is on the line, whose end falls due: the plug's answer goes up as its GoodCRC ends, and else nobody has acknowledged the
-- question, however often it was sent
abbrev pub learnt_on : Line → CableLimit
learnt_on (line.GoodCrc side packet answer fate end) = by_reply (reply_of packet.objects)
learnt_on l = known.NoPlug

-- by what falls due: where it is a timer, no answer came in time
abbrev pub learnt_by : What → Line → CableLimit
learnt_by what.Line l = learnt_on l
learnt_by w l = known.Silent

-- the source leaves the state in which it asks for the one in which it offers
abbrev pub settles : State → State → Bool
settles state.VdmIdentityRequest state.SendCapabilities = true
settles before after = false

-- how it learns the limit in a step between these states, if it does
abbrev pub learnt : State → State → CableLimit → Option CableLimit
learnt before after how = if settles before after then Some how else None

-- What the source's engine was told where it came to its limit so, and the limit (rows S5 to S8): that which the plug's acknowledged
-- objects tell, or 3,000 mA.
abbrev pub LearntBy : CableLimit → Stimulus → Option ℕ → Type 0
LearntBy known.Told (stimulus.Identity objects) limit = (reply_of objects.items ≡ reply.Ack) × (limit ≡ Some (limit_of objects.items))
LearntBy known.Nak (stimulus.Identity objects) limit = (reply_of objects.items ≡ reply.Nak) × (limit ≡ Some cable_current)
LearntBy known.Busy (stimulus.Identity objects) limit = (reply_of objects.items ≡ reply.Busy) × (limit ≡ Some cable_current)
LearntBy known.NoPlug stimulus.Failed limit = limit ≡ Some cable_current
LearntBy known.Silent (stimulus.Ended timer.VdmResponse) limit = limit ≡ Some cable_current
LearntBy how x limit = ⊥
