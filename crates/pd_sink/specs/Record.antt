-- What the sink's policy engine keeps.
use Rattle.std.specs.Prelude.{ℕ, Bool, false, List, [], Option, None}
use Rattle.pd_timers.specs.Deadlines.{idle}
use Rattle.pd_setup.specs.Sinks.{SinkData}
use Rattle.pd_sink.specs.declared.kinds.State.{State}
use Rattle.pd_sink.specs.declared.kinds.State.TheVariants as state

-- The state, the running deadlines, whether the message of this state was sent, the HardResetCounter, whether the sink
-- asks again after a Wait, whether its demand is fresh, whether it has a contract, the sink that is attached, and the
-- objects of the offer that it keeps.
pub record SinkRecord : Type 0 where
  pub state : State
  pub deadlines : List (Option ℕ)
  pub sent : Bool
  pub hard_reset_counter : ℕ
  pub again : Bool
  pub fresh : Bool
  pub has_contract : Bool
  pub sink : Option SinkData
  pub kept_offer : List ℕ

-- the record of a detached port, and so at the attach
abbrev pub off : SinkRecord
off = record {
  state = state.Off;
  deadlines = idle;
  sent = false;
  hard_reset_counter = 0;
  again = false;
  fresh = false;
  has_contract = false;
  sink = None;
  kept_offer = [];
}
