-- What the plug's policy engine keeps.
use Rattle.std.specs.Prelude.{ℕ, Bool, false, List, Option, None}
use Rattle.pd_timers.specs.Deadlines.{idle}
use Rattle.pd_identity.specs.declared.Cable.{Cable}
use Rattle.pd_plug.specs.declared.kinds.State.{State}
use Rattle.pd_plug.specs.declared.kinds.State.TheVariants as state

-- the state, the running deadlines, whether the message of this state was sent, and the cable that is attached
pub record PlugRecord : Type 0 where
  pub state : State
  pub deadlines : List (Option ℕ)
  pub sent : Bool
  pub cable : Option Cable

-- the record of a detached port, and so at the attach
abbrev pub off : PlugRecord
off = record { state = state.Off; deadlines = idle; sent = false; cable = None }
