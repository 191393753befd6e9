-- What a sink is set to: this product's own ranges of voltage and power.
use Rattle.std.specs.Prelude.{◌≡◌, ℕ, ◌≤◌, ◌%◌}
use Rattle.pd_setup.specs.declared.sink.SinkMode.{SinkMode}
use Rattle.pd_setup.specs.declared.sink.SinkRevision.{SinkRevision}
use Rattle.pd_setup.specs.declared.sink.SinkRevision.TheVariants.{Revision2, Revision3}

-- the greatest voltage in mV, the demand in mW, the mode and the revision
pub record SinkData : Type 0 where
  pub max_mv : ℕ
  pub demand_mw : ℕ
  pub mode : SinkMode
  pub revision : SinkRevision

-- 50 mW to 100 W
abbrev pub IsDemand : ℕ → Type 0
IsDemand mw = (50 ≤ mw) × (mw ≤ 100000)

-- 5 V to 20 V in steps of 50 mV, and 50 mW to 100 W
pub record IsSink (s : SinkData) : Type 0 where
  pub least_mv : 5000 ≤ s.max_mv
  pub most_mv : s.max_mv ≤ 20000
  pub steps_mv : s.max_mv % 50 ≡ 0
  pub least_mw : 50 ≤ s.demand_mw
  pub most_mw : s.demand_mw ≤ 100000

-- the revision bits that a sink of this revision sends (USB Power Delivery 3.0, section 6.2.1.1.5)
abbrev pub bits_of : SinkRevision → ℕ
bits_of Revision2 = 1
bits_of Revision3 = 2
