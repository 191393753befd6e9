-- A supply as a port is configured with it: this product's own ranges of voltage and current.
use Rattle.std.specs.Prelude.{◌≡◌, ℕ, ◌≤◌, ◌%◌}

-- a voltage in mV and a current in mA
pub record SupplyData : Type 0 where
  pub mv : ℕ
  pub ma : ℕ

-- 5 V to 20 V in steps of 50 mV, and 10 mA to 5 A in steps of 10 mA
pub record IsSupply (s : SupplyData) : Type 0 where
  pub least_mv : 5000 ≤ s.mv
  pub most_mv : s.mv ≤ 20000
  pub steps_mv : s.mv % 50 ≡ 0
  pub least_ma : 10 ≤ s.ma
  pub most_ma : s.ma ≤ 5000
  pub steps_ma : s.ma % 10 ≡ 0

-- the least supply of these ranges, which stands in the free places of a list
abbrev pub least : SupplyData
least = record { mv = 5000; ma = 10 }
