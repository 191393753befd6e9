-- What the run of a charger relies on of a port's step. Each heading is the sentence of the bench's promise that the laws
-- under it serve; Budget.antt, Sheds.antt, Sound.antt, Cables.antt and Packets.antt have the others.
use Rattle.std.specs.Prelude.{◌≡◌, ◌⊎◌, ℕ, ◌+◌, ◌≤◌, nat_le, if◌then◌else◌, ◌&&◌, Bool, true, false, is_some, List, [], ◌∷◌}
use Rattle.std.specs.Prelude.{Option, Some, None}
use Rattle.pd_header.specs.declared.side.Side.TheVariants.{Source, Sink, Plug}
use Rattle.pd_objects.specs.declared.query.Answer.{Answer}
use Rattle.pd_source.specs.Record.{SourceSettings, SourceRecord, off}
use Rattle.pd_source.specs.Step as source
use Rattle.pd_source.specs.declared.kinds.Stimulus.{Stimulus}
use Rattle.pd_timers.specs.declared.Timer.{Timer}
use Rattle.pd_timers.specs.Deadlines.{timers, deadline, stopped}
use Rattle.pd_line.specs.declared.port_parts.PortParts.{PortParts}
use Rattle.pd_line.specs.Record.{PortRecord}
use Rattle.pd_line.specs.Lines.{is_idle}
use Rattle.pd_line.specs.Later.{Times, times_of, Later}
use Rattle.pd_port.specs.declared.due.Due.{Due}
use Rattle.pd_port.specs.declared.due.What.{What}
use Rattle.pd_port.specs.declared.due.What.TheVariants as what
use Rattle.pd_setup.specs.Events.{EventData}
use Rattle.pd_setup.specs.Settings.{SettingsData}
use Rattle.pd_port.specs.Happens.{is_budget, is_detach}
use Rattle.pd_port.specs.SourceTold.{source_told, told_if_shed}
use Rattle.pd_port.specs.Port.{dues, due, is_before, begun, happens, portstep, whole, detached, source_settings, ask}
use Rattle.pd_port.specs.Port.{record_after, entry_of}

-- ## A run ends: less falls due after each step up to its time

-- the next event isn't before t
abbrev pub NotBefore : ℕ → Option EventData → Type 0
NotBefore t None = Unit {0}
NotBefore t (Some e) = t ≤ e.at

-- 1 for a time up to t
abbrev pub one_by : Option ℕ → ℕ → ℕ
one_by None t = 0
one_by (Some at) t = if nat_le at t then 1 else 0

-- how many of these timers end by t
abbrev pub ending : List Timer → List (Option ℕ) → ℕ → ℕ
ending [] d t = 0
ending (u ∷ us) d t = one_by (deadline d u) t + ending us d t

-- how many times are up to t
unfoldable pub pending_at : Times → ℕ → ℕ
pending_at a t = one_by a.line t + ending timers a.source t + ending timers a.sink t + ending timers a.plug t

-- how many deadlines and line's ends of the record are at or before t
unfoldable pub pending : PortRecord → ℕ → ℕ
pending r t = pending_at (times_of r) t

-- the times without the one that falls due
abbrev pub without : What → Times → Times
without (what.Event e) a = a
without what.Line a = record a { line = None }
without (what.Timer Source timer) a = record a { source = stopped a.source timer }
without (what.Timer Sink timer) a = record a { sink = stopped a.sink timer }
without (what.Timer Plug timer) a = record a { plug = stopped a.plug timer }

-- after a step, each deadline and each line's end stood before it, and wasn't the one that fell due, or is later
abbrev pub StepsSetLater : Type 0
StepsSetLater =
    (s : SettingsData) (r : PortRecord) (d : Due) (given : Option Answer) →
    Later d.time (without d.what (times_of r)) (times_of (record_after s r d given))

-- this is one of the dues
abbrev pub IsOneOf : Due → List (Option Due) → Type 0
IsOneOf d [] = ⊥
IsOneOf d (x ∷ xs) = (x ≡ Some d) ⊎ IsOneOf d xs

-- what falls due next is one of the dues, and none of them is before it
pub record IsEarliest (d : Due) (ds : List (Option Due)) : Type 0 where
  pub one : IsOneOf d ds
  pub least : (c : Due) → IsOneOf c ds → is_before c d ≡ false

abbrev pub DuesAreEarliest : Type 0
DuesAreEarliest = (r : PortRecord) (next : Option EventData) (d : Due) → due r next ≡ Some d → IsEarliest d (dues r next)

-- ## All contracts lie within the budget: the source takes one step, for which the port has asked, and reads an answer there alone

-- the source after a step at t, with what it is told and with the answer. Where it is told nothing, it takes no step
abbrev pub source_after_told : SourceSettings → ℕ → Option Stimulus → Option Answer → SourceRecord → SourceRecord
source_after_told s t None given r = r
source_after_told s t (Some x) given r = source.stepped s t x given r

-- The source after a step of the port. Where the budget changes, it is told to shed its hold where that may not stay, and
-- gets no answer; where the cable is pulled out, it is off; and else it takes one step with what `source_told` says and
-- with the answer, and none where that says nothing.
abbrev pub source_after : SettingsData → PortRecord → Due → Option Answer → SourceRecord
source_after s r d given =
    if is_budget d.what then source_after_told (source_settings s) d.time (told_if_shed given) None r.source
    else (if is_detach d.what && is_some r.cable then off (source_settings s)
    else source_after_told (source_settings s) d.time (source_told d.what (whole s r)) given r.source)

abbrev pub SourceStepsOnce : Type 0
SourceStepsOnce =
    (s : SettingsData) (r : PortRecord) (d : Due) (given : Option Answer) → (record_after s r d given).source ≡ source_after s r d given

-- where the port asks nothing, no answer matters: not to what it becomes, and not to what is read of its step
abbrev pub AnswersMatterOnlyWhereAsked : Type 0
AnswersMatterOnlyWhereAsked =
    (s : SettingsData) (r : PortRecord) (d : Due) (a b : Option Answer) → ask s r d ≡ None →
    (record_after s r d a ≡ record_after s r d b) × (entry_of s r d a ≡ entry_of s r d b)

-- ## Each text is what the written tables give: of a cable that is pulled out, and of a busy line

-- where the cable is pulled out, the port is as at the start, whatever was on the line
abbrev pub DetachedAreNew : Type 0
DetachedAreNew =
    (s : SettingsData) (r : PortRecord) (d : Due) (given : Option Answer) → is_detach d.what ≡ true → is_some r.cable ≡ true →
    record_after s r d given ≡ detached s

-- where what falls due leaves the line busy, the step does no more: nothing that waits starts
abbrev pub WaitsWhileBusy : Type 0
WaitsWhileBusy =
    (r : PortParts) (d : Due) (given : Option Answer) →
    is_idle (happens d.what d.time (begun r given)).port.line ≡ false →
    portstep r d given ≡ happens d.what d.time (begun r given)

-- what falls due starts no packet, or else the step does no more: no step starts two
abbrev pub StartsNoTwo : Type 0
StartsNoTwo =
    (r : PortParts) (d : Due) (given : Option Answer) →
    ((happens d.what d.time (begun r given)).start ≡ None) ⊎ (portstep r d given ≡ happens d.what d.time (begun r given))

-- whether the end of what is on the line falls due
abbrev pub is_line : What → Bool
is_line what.Line = true
is_line _ = false

-- while something is on the line, nothing but its own end changes the line or starts anything, unless the cable is pulled
-- out
abbrev pub BusyLinesAreLeft : Type 0
BusyLinesAreLeft =
    (s : SettingsData) (r : PortRecord) (d : Due) (given : Option Answer) →
    is_idle r.line ≡ false → is_line d.what ≡ false → is_detach d.what ≡ false →
    ((record_after s r d given).line ≡ r.line) × ((entry_of s r d given).start ≡ None)
