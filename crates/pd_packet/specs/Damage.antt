-- One code of a packet is replaced on the line: this product's own way to disturb a packet.
use Rattle.std.specs.Prelude.{ℕ, ◌≤◌}

-- the place that is hit, and the bits of the code there that turn
pub record DamageData : Type 0 where
  pub place : ℕ
  pub mask : ℕ

-- a place from 0 to 68, and 1 to 31 for the bits
pub record IsDamage (d : DamageData) : Type 0 where
  pub most_place : d.place ≤ 68
  pub some_bit : 1 ≤ d.mask
  pub most_mask : d.mask ≤ 31
