-- What a change of the shared budget does to a port, and what a port may come to hold. These laws serve the promise that at the
-- end of every instant all contracts lie together within the charger's budget of that time.
use Rattle.std.specs.Prelude.{◌≡◌, ℕ, ◌≤◌, max, true, false, Option, Some}
use Rattle.pd_objects.specs.Answers.{IsAllowed}
use Rattle.pd_objects.specs.declared.query.Answer.{Answer}
use Rattle.pd_objects.specs.declared.query.Answer.TheVariants as answer
use Rattle.pd_source.specs.Rest.{IsEmptyAtRest}
use Rattle.pd_source.specs.Step.{contracted}
use Rattle.pd_setup.specs.Events.{EventData}
use Rattle.pd_setup.specs.Settings.{SettingsData, floor_of}
use Rattle.pd_port.specs.declared.due.Due.{Due}
use Rattle.pd_port.specs.declared.due.What.TheVariants as what
use Rattle.pd_port.specs.Happens.{is_budget}
use Rattle.pd_port.specs.Changes.{power_after}
use Rattle.pd_port.specs.Port.{PortRecord, due, detached, ask, record_after, entry_of, hold}

-- the power in microwatts of a port's contract: voltage times maximum operating current, and 0 where there is none
abbrev pub contract_power : PortRecord → ℕ
contract_power r = contracted r.source.contract

-- a hold is at least the power of the port's contract
abbrev pub HoldsCoverContracts : Type 0
HoldsCoverContracts = (s : SettingsData) (r : PortRecord) → contract_power r ≤ hold s r

-- A detached port has no contract, and the change that a step's entry tells of leads from the power of the contract before
-- the step to the power after it.
pub record ContractsAreTold : Type 0 where
  pub at_start : (s : SettingsData) → contract_power (detached s) ≡ 0
  pub after_each : (s : SettingsData) (r : PortRecord) (d : Due) (given : Option Answer) →
      power_after (entry_of s r d given).contract (contract_power r) ≡ contract_power (record_after s r d given)

-- at rest a port's source holds nothing
abbrev pub RestsEmpty : PortRecord → Type 0
RestsEmpty r = IsEmptyAtRest r.source

-- So it is on a detached port, and after each step of a port on which it was so.
pub record RestsAreEmpty : Type 0 where
  pub at_start : (s : SettingsData) → RestsEmpty (detached s)
  pub after_each : (s : SettingsData) (r : PortRecord) (d : Due) (given : Option Answer) → RestsEmpty r →
      RestsEmpty (record_after s r d given)

-- Where the budget changes, a hold that may stay stays as it is, and a hold that may not falls to the floor.
pub record KeepsOrSheds (s : SettingsData) (r : PortRecord) (d : Due) : Type 0 where
  pub keeps : hold s (record_after s r d (Some (answer.Fits true))) ≡ hold s r
  pub sheds : hold s (record_after s r d (Some (answer.Fits false))) ≡ floor_of s

abbrev pub ChangesKeepOrShed : Type 0
ChangesKeepOrShed = (s : SettingsData) (r : PortRecord) (d : Due) → is_budget d.what ≡ true → RestsEmpty r → KeepsOrSheds s r d

-- with an answer that so much free power allows, a hold comes to no more than is free, or than it was
abbrev pub HoldsStayAllowed : Type 0
HoldsStayAllowed =
    (s : SettingsData) (r : PortRecord) (d : Due) (given : Option Answer) (free : ℕ) →
    IsAllowed free (ask s r d) given → hold s (record_after s r d given) ≤ max free (hold s r)

-- a next event is due, or something no later; and at its time it comes before all else
pub record EventsComeFirst : Type 0 where
  pub no_later : (r : PortRecord) (e : EventData) → (d : Due) × (due r (Some e) ≡ Some d) × (d.time ≤ e.at)
  pub first : (r : PortRecord) (e : EventData) (d : Due) → due r (Some e) ≡ Some d → d.time ≡ e.at → d.what ≡ what.Event e
