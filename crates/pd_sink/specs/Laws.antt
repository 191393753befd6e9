-- Laws of the sink's policy engine, and of what it sends.
use Rattle.std.specs.Prelude.{◌≡◌, ◌↔◌, ℕ, ◌*◌, ◌%◌, ◌<◌, ◌≤◌, min, Bool, true, if◌then◌else◌, List, Contains, length, IfSome}
use Rattle.pd_symbols.specs.Words.{field}
use Rattle.pd_timers.specs.Deadlines.{SetsLater}
use Rattle.pd_timers.specs.Table.{are_numbered_from}
use Rattle.pd_sink.specs.declared.kinds.Stimulus.{Stimulus}
use Rattle.pd_sink.specs.declared.rule.Offered.{Offered}
use Rattle.pd_sink.specs.declared.rule.Asked.{Asked}
use Rattle.pd_setup.specs.Sinks.{SinkData}
use Rattle.pd_sink.specs.Rule.{IsNeed, need_of, IsAcceptedOf, Asks, accepted}
use Rattle.pd_sink.specs.Choice.{asked_of}
use Rattle.pd_sink.specs.Objects.{request_object, sink_object}
use Rattle.pd_sink.specs.Record.{SinkRecord}
use Rattle.pd_sink.specs.Table.{table}
use Rattle.pd_sink.specs.Step.{before_row, stepped}

-- each row's number is its place in the table, from 1
abbrev pub RowsAreNumbered : Type 0
RowsAreNumbered = are_numbered_from 1 table ≡ true

-- after a step, each deadline that runs ran before it, and wasn't the one that fell due, or is later than the step
abbrev pub StepsSetLater : Type 0
StepsSetLater =
    (now : ℕ) (x : Stimulus) (r : SinkRecord) → SetsLater now (before_row x r).deadlines (stepped now x r).deadlines

-- what is needed of a voltage is the least multiple of 10 mA that has the power
abbrev pub NeedsAreLeast : Type 0
NeedsAreLeast = (mv demand_mw : ℕ) → 0 < mv → IsNeed mv demand_mw (need_of mv demand_mw)

-- the supplies that a sink accepts are those of the accepted objects, at their positions
abbrev pub AcceptedAreOffered : Type 0
AcceptedAreOffered =
    (sink : SinkData) (offer : List ℕ) (o : Offered) → Contains (accepted sink offer) o ↔ IsAcceptedOf sink offer o

-- of every offer a sink asks what the rule says
abbrev pub SinksAskByTheRule : Type 0
SinksAskByTheRule = (sink : SinkData) (offer : List ℕ) → Asks sink (accepted sink offer) (asked_of sink offer)

-- A Request's object asks for a position and a current, which is the operating and the maximum one. Bit 26 tells whether
-- there is a mismatch; no other flag is set.
pub record Requests (w : ℕ) (a : Asked) : Type 0 where
  pub reserved : field w 31 31 ≡ 0
  pub position : field w 30 28 ≡ a.position
  pub no_give_back : field w 27 27 ≡ 0
  pub mismatch : field w 26 26 ≡ (if a.mismatch then 1 else 0)
  pub no_other_flag : field w 25 20 ≡ 0
  pub operating_current : field w 19 10 * 10 ≡ a.ma
  pub maximum_current : field w 9 0 * 10 ≡ a.ma

-- what is sent to ask something of an offer has these fields
abbrev pub RequestsHaveTheirFields : Type 0
RequestsHaveTheirFields =
    (sink : SinkData) (offer : List ℕ) → length offer ≤ 7 → IfSome (asked_of sink offer) (λ a. Requests (request_object a) a)

-- An object of Sink_Capabilities tells of a voltage in mV and a current in mA. Bit 28 tells whether the sink needs more
-- than 5 V for its full function; no other flag is set.
pub record Tells (w : ℕ) (higher : Bool) (mv ma : ℕ) : Type 0 where
  pub fixed : field w 31 30 ≡ 0
  pub no_dual_role_power : field w 29 29 ≡ 0
  pub higher_capability : field w 28 28 ≡ (if higher then 1 else 0)
  pub no_other_flag : field w 27 20 ≡ 0
  pub voltage : field w 19 10 * 50 ≡ mv
  pub current : field w 9 0 * 10 ≡ ma

-- an object of Sink_Capabilities tells of a voltage, and of what is needed of it, up to a current
abbrev pub CapabilitiesHaveTheirFields : Type 0
CapabilitiesHaveTheirFields =
    (higher : Bool) (sink : SinkData) (mv most_ma : ℕ) →
    mv ≤ 20000 → mv % 50 ≡ 0 → most_ma ≤ 5000 → most_ma % 10 ≡ 0 →
    Tells (sink_object higher sink mv most_ma) higher mv (min (need_of mv sink.demand_mw) most_ma)
