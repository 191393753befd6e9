-- The times at which something is due on a port, and what a step may do to them.
use Rattle.std.specs.Prelude.{◌≡◌, ◌⊎◌, ℕ, ◌<◌, List, Option, Some, None}
use Rattle.pd_timers.specs.Deadlines.{SetsLater}
use Rattle.pd_line.specs.declared.port_parts.Line.{Line}
use Rattle.pd_line.specs.declared.port_parts.Line.TheVariants.{Idle, Message, Pause, GoodCrc, NoAnswer, HardReset}
use Rattle.pd_line.specs.Record.{PortRecord}

-- when what is on the line ends
abbrev pub line_end : Line → Option ℕ
line_end Idle = None
line_end (Message side p fate end) = Some end
line_end (Pause side p end) = Some end
line_end (GoodCrc side p a fate end) = Some end
line_end (NoAnswer side p end) = Some end
line_end (HardReset side end) = Some end

-- each engine's deadlines, and the line's end
pub record Times : Type 0 where
  pub source : List (Option ℕ)
  pub sink : List (Option ℕ)
  pub plug : List (Option ℕ)
  pub line : Option ℕ

abbrev pub times_of : PortRecord → Times
times_of r =
    record {
      source = r.source.deadlines;
      sink = r.sink.deadlines;
      plug = r.plug.deadlines;
      line = line_end r.line;
    }

-- a time that stands after a step at t stood before it, or is later than t
abbrev pub KeptOrLater : ℕ → Option ℕ → Option ℕ → Type 0
KeptOrLater t old new = (at : ℕ) → new ≡ Some at → (old ≡ Some at) ⊎ (t < at)

-- each time that stands after a step at t stood before it, or is later than t
pub record Later (t : ℕ) (old new : Times) : Type 0 where
  pub source : SetsLater t old.source new.source
  pub sink : SetsLater t old.sink new.sink
  pub plug : SetsLater t old.plug new.plug
  pub line : KeptOrLater t old.line new.line
