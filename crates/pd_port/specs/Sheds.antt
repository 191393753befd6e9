-- A port that sheds at a change of the budget, to the end of that instant: the promise that all contracts lie within the budget
-- of the time holds where it falls, too.
use Rattle.std.specs.Prelude.{◌≡◌, ℕ, true, false, Option, Some, None}
use Rattle.pd_objects.specs.declared.query.Answer.{Answer}
use Rattle.pd_objects.specs.declared.query.Answer.TheVariants as answer
use Rattle.pd_source.specs.Silent.{IsSilentAt}
use Rattle.pd_setup.specs.Events.{EventData}
use Rattle.pd_setup.specs.Settings.{SettingsData, floor_of}
use Rattle.pd_port.specs.declared.due.Due.{Due}
use Rattle.pd_port.specs.Budget.{RestsEmpty}
use Rattle.pd_port.specs.Happens.{is_budget}
use Rattle.pd_port.specs.Port.{PortRecord, due, record_after, hold}

-- the port holds its floor alone, and has no contract
pub record HoldsFloorAlone (s : SettingsData) (r : PortRecord) : Type 0 where
  pub floor : hold s r ≡ floor_of s
  pub no_contract : r.source.contract ≡ None

-- Where the budget changes and the port's hold may not stay, its source is silent at that time; what else falls due at that
-- time leaves it silent; and with a silent source a port holds its floor alone.
pub record ShedsLast : Type 0 where
  pub at_change : (s : SettingsData) (r : PortRecord) (d : Due) → is_budget d.what ≡ true → RestsEmpty r →
      IsSilentAt d.time (record_after s r d (Some (answer.Fits false))).source
  pub after_each : (s : SettingsData) (r : PortRecord) (next : Option EventData) (d : Due) (given : Option Answer) →
      due r next ≡ Some d → IsSilentAt d.time r.source → IsSilentAt d.time (record_after s r d given).source
  pub holds : (s : SettingsData) (r : PortRecord) (t : ℕ) → IsSilentAt t r.source → HoldsFloorAlone s r
