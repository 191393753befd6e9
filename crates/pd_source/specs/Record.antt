-- What a source is set to, and what its policy engine keeps.
use Rattle.std.specs.Prelude.{ℕ, Bool, false, ◌==◌, if◌then◌else◌, List, [], Option, Some, None}
use Rattle.pd_objects.specs.Supply.{SupplyData}
use Rattle.pd_objects.specs.declared.contract.Contract.{Contract}
use Rattle.pd_timers.specs.Deadlines.{idle}
use Rattle.pd_source.specs.declared.kinds.State.{State}
use Rattle.pd_source.specs.declared.kinds.State.TheVariants as state
use Rattle.pd_source.specs.declared.kinds.Revision.{Revision}
use Rattle.pd_source.specs.declared.kinds.Revision.TheVariants as revision

-- the port's supplies, how often the cable is asked who it is, and whether the power is unconstrained
pub record SourceSettings : Type 0 where
  pub supplies : List SupplyData
  pub identity_tries : ℕ
  pub unconstrained : Bool

-- What the engine keeps: the state and the running deadlines; the CapsCounter, the DiscoverIdentityCounter and the
-- HardResetCounter; the cable's limit in mA where it is known; whether the message of this state was sent; the revision
-- that is spoken with the sink; the objects of the request that was kept last and of the one that is accepted; the
-- currents in mA of the offer that is being made and of the one that was delivered; and the contract.
pub record SourceRecord : Type 0 where
  pub state : State
  pub deadlines : List (Option ℕ)
  pub caps_counter : ℕ
  pub discover_identity_counter : ℕ
  pub hard_reset_counter : ℕ
  pub limit : Option ℕ
  pub sent : Bool
  pub revision : Revision
  pub kept_request : Option ℕ
  pub accepted_request : Option ℕ
  pub draft_offer : List ℕ
  pub delivered_offer : List ℕ
  pub contract : Option Contract

pub record SourceData : Type 0 where
  pub settings : SourceSettings
  pub «record» : SourceRecord

-- the same source with another record
abbrev pub with_record : SourceData → SourceRecord → SourceData
with_record d r = record d { «record» = r }

-- the current in mA that each cable carries (USB Type-C)
abbrev pub cable_current : ℕ
cable_current = 3000

-- the record of a detached port, and so at the attach: of a cable that is never asked no more is known
abbrev pub off : SourceSettings → SourceRecord
off s = record {
  state = state.Off;
  deadlines = idle;
  caps_counter = 0;
  discover_identity_counter = 0;
  hard_reset_counter = 0;
  limit = if s.identity_tries == 0 then Some cable_current else None;
  sent = false;
  revision = revision.Revision3;
  kept_request = None;
  accepted_request = None;
  draft_offer = [];
  delivered_offer = [];
  contract = None;
}

-- a new engine
abbrev pub new_source : SourceSettings → SourceData
new_source s = record { settings = s; «record» = off s }
