-- A fixed supply of a Sink_Capabilities message (USB Power Delivery 3.0, section 6.4.1.3).
use Rattle.std.specs.Prelude.{◌≡◌, ◌==◌, ℕ, ◌+◌, ◌*◌, ◌^◌, ◌<◌, Bool, true, false}
use Rattle.pd_symbols.specs.Words.{field}

-- whether more than 5 V is needed for full function (bit 28 of the object), the voltage in 50 mV and the operational
-- current in 10 mA
pub record SinkSupplyData : Type 0 where
  pub higher_capability : Bool
  pub voltage : ℕ
  pub current : ℕ

-- each field is within its bits
pub record IsSinkSupply (v : SinkSupplyData) : Type 0 where
  pub voltage_fits : v.voltage < 1024
  pub current_fits : v.current < 1024

abbrev pub bit : Bool → ℕ
bit true = 1
bit false = 0

-- the fields of an object
abbrev pub sink_supply_of : ℕ → SinkSupplyData
sink_supply_of w = record { higher_capability = field w 28 28 == 1; voltage = field w 19 10; current = field w 9 0 }

-- the object of these fields: bits 31 and 30 are 00, and so are bit 29 and bits 27 to 20
pub record HasSinkFields (w : ℕ) (v : SinkSupplyData) : Type 0 where
  pub kind : field w 31 30 ≡ 0
  pub dual_role_power : field w 29 29 ≡ 0
  pub higher_capability : field w 28 28 ≡ bit v.higher_capability
  pub others : field w 27 20 ≡ 0
  pub voltage : field w 19 10 ≡ v.voltage
  pub current : field w 9 0 ≡ v.current

-- the number that an object is, from its fields at their places
unfoldable pub sink_word_of : SinkSupplyData → ℕ
sink_word_of v = bit v.higher_capability * 2 ^ 28 + v.voltage * 2 ^ 10 + v.current
