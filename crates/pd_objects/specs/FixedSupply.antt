-- A fixed supply of a Source_Capabilities message (USB Power Delivery 3.0, section 6.4.1.2).
use Rattle.std.specs.Prelude.{◌≡◌, ℕ, ◌+◌, ◌*◌, ◌^◌, ◌<◌}
use Rattle.pd_symbols.specs.Words.{field}

-- the flags (bits 29 to 24 of the object), the peak current, the voltage in 50 mV and the greatest current in 10 mA
pub record FixedSupplyData : Type 0 where
  pub flags : ℕ
  pub peak_current : ℕ
  pub voltage : ℕ
  pub current : ℕ

-- the flag of unconstrained power, bit 27 of the object
abbrev pub unconstrained_power : ℕ
unconstrained_power = 8

-- the greatest current that an object states, in 10 mA
abbrev pub greatest_current : ℕ
greatest_current = 1023

-- each field is within its bits
pub record IsFixedSupply (v : FixedSupplyData) : Type 0 where
  pub flags_fit : v.flags < 64
  pub peak_current_fits : v.peak_current < 4
  pub voltage_fits : v.voltage < 1024
  pub current_fits : v.current < 1024

-- the fields of an object
abbrev pub fixed_supply_of : ℕ → FixedSupplyData
fixed_supply_of w = record { flags = field w 29 24; peak_current = field w 21 20; voltage = field w 19 10; current = field w 9 0 }

-- the object of these fields: bits 31 and 30 are 00, and so are the reserved bits 23 and 22
pub record HasFields (w : ℕ) (v : FixedSupplyData) : Type 0 where
  pub kind : field w 31 30 ≡ 0
  pub flags : field w 29 24 ≡ v.flags
  pub reserved : field w 23 22 ≡ 0
  pub peak_current : field w 21 20 ≡ v.peak_current
  pub voltage : field w 19 10 ≡ v.voltage
  pub current : field w 9 0 ≡ v.current

-- the number that an object is, from its fields at their places
unfoldable pub word_of : FixedSupplyData → ℕ
word_of v = v.flags * 2 ^ 24 + v.peak_current * 2 ^ 20 + v.voltage * 2 ^ 10 + v.current
