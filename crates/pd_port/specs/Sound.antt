-- What holds of a port's source from step to step: its limit, its offers, its accepted request and its contract are sound,
-- and what becomes of them. These laws serve the promise that each contract lies within its offer.
use Rattle.std.specs.Prelude.{◌≡◌, ◌⊎◌, ℕ, Option, Some, None}
use Rattle.arrayvec.specs.ArrayVec.{ArrayVec}
use Rattle.pd_objects.specs.Supply.{SupplyData}
use Rattle.pd_objects.specs.declared.query.Answer.{Answer}
use Rattle.pd_objects.specs.declared.query.Query.TheVariants as query
use Rattle.pd_source.specs.Record.{SourceSettings, SourceRecord}
use Rattle.pd_source.specs.Sound.{IsSound, IsAnswer, IsMade, IsTaken, IsSettled}
use Rattle.pd_source.specs.Commits.{MakesOrNot}
use Rattle.pd_setup.specs.Settings.{SettingsData}
use Rattle.pd_port.specs.declared.due.Due.{Due}
use Rattle.pd_port.specs.Port.{PortRecord, detached, source_settings, ask, record_after}

abbrev pub IsSoundPort : SettingsData → PortRecord → Type 0
IsSoundPort s r = IsSound (source_settings s) r.source

-- the answers to what a port asks: to an offer, a current for each supply within the supply's and the limit
abbrev pub IsAnswerTo : SettingsData → PortRecord → Due → Option Answer → Type 0
IsAnswerTo s r d given = IsAnswer (source_settings s) (ask s r d) given

-- A port is sound at the start, and stays so in each step with an answer to what it asks, which is on its own supplies.
pub record PortsStaySound : Type 0 where
  pub at_start : (s : SettingsData) → IsSoundPort s (detached s)
  pub after_each : (s : SettingsData) (r : PortRecord) (d : Due) (given : Option Answer) →
      IsSoundPort s r → IsAnswerTo s r d given → IsSoundPort s (record_after s r d given)
  pub on_supplies : (s : SettingsData) (r : PortRecord) (d : Due) (supplies : ArrayVec SupplyData) (limit : ℕ) →
      ask s r d ≡ Some (query.Offer supplies limit) → supplies.items ≡ s.supplies

-- What becomes of a contract, an accepted request and a delivered offer: a contract is made of the other two; a request is
-- accepted that is kept, valid and fits; the offer is the one that was made, and stays where a request is accepted. A
-- contract is made in a step from Transition_Supply to Ready alone.
pub record Agrees (s : SourceSettings) (given : Option Answer) (old new : SourceRecord) : Type 0 where
  pub contract : IsMade s old new.contract
  pub accepted : IsTaken given old new.accepted_request
  pub delivered : IsSettled old new.delivered_offer
  pub kept : (new.delivered_offer ≡ old.delivered_offer) ⊎ ((new.accepted_request ≡ old.accepted_request) ⊎ (new.accepted_request ≡ None))
  pub made : MakesOrNot s old new

-- So it is in each step of a port.
abbrev pub PortsAgree : Type 0
PortsAgree =
    (s : SettingsData) (r : PortRecord) (d : Due) (given : Option Answer) →
    Agrees (source_settings s) given r.source (record_after s r d given).source
