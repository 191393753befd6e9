-- What a port's source knows of the attached cable, from step to step. This law serves the promise that each contract lies
-- within its cable's rating.
use Rattle.std.specs.Prelude.{◌≡◌, ◌≤◌, ℕ, Option, Some, None}
use Rattle.pd_identity.specs.Identity.{rated}
use Rattle.pd_identity.specs.declared.Cable.{Cable}
use Rattle.pd_objects.specs.declared.query.Answer.{Answer}
use Rattle.pd_source.specs.declared.kinds.State.TheVariants as state
use Rattle.pd_source.specs.Record.{cable_current}
use Rattle.pd_source.specs.Sound.{limit_in}
use Rattle.pd_setup.specs.Settings.{SettingsData}
use Rattle.pd_line.specs.Cables.{TellsOfCable, wire}
use Rattle.pd_port.specs.declared.due.Due.{Due}
use Rattle.pd_port.specs.Port.{PortRecord, detached, record_after}

-- the most current in mA that what is attached is known to carry: that of each cable where nothing is
abbrev pub carried : Option Cable → ℕ
carried None = cable_current
carried (Some cable) = rated cable

-- The source offers under no more than the attached cable is rated at, it is off while nothing is attached, and whatever may
-- reach it tells it of the attached cable alone.
pub record KnowsCable (r : PortRecord) : Type 0 where
  pub limit : limit_in r.source ≤ carried r.cable
  pub off : r.cable ≡ None → r.source.state ≡ state.Off
  pub told : TellsOfCable r.cable (wire r)

-- So it is on a detached port, and after each step of a port on which it was so, whatever the answer.
pub record PortsKnowTheirCables : Type 0 where
  pub at_start : (s : SettingsData) → KnowsCable (detached s)
  pub after_each : (s : SettingsData) (r : PortRecord) (d : Due) (given : Option Answer) → KnowsCable r →
      KnowsCable (record_after s r d given)
