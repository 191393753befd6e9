-- What is sure for each port of a charger, whatever is attached to it. Ports are numbered from 0 here.
use Rattle.std.specs.Prelude.{ℕ, ◌+◌, ◌-◌, ◌*◌, max, nat_le, fold, map, sum_by, take, drop, slice_index_or}
use Rattle.pd_objects.specs.Supply.{SupplyData}
use Rattle.pd_setup.specs.Settings.{SettingsData, floor_of}
use Rattle.pd_ledger.specs.Offer.{offered}
use Rattle.pd_scenario.specs.Plan.{no_settings}
use Rattle.pd_guarantee.specs.declared.bounds.PortBounds.{PortBounds}
use Rattle.pd_guarantee.specs.declared.bounds.SupplyBounds.{SupplyBounds}
use Rattle.pd_guarantee.specs.Charger.{Charger}

-- the power of a supply in microwatts: its voltage in mV times its current in mA
abbrev pub power_of : SupplyData → ℕ
power_of s = s.mv * s.ma

-- the most that a port ever holds of the budget: its floor, or the power of its strongest supply where that is greater
unfoldable pub greatest_hold : SettingsData → ℕ
greatest_hold s = fold max (floor_of s) (map power_of s.supplies)

-- what the ports before this one, and those after it, come to by a measure of each
abbrev pub lower : (SettingsData → ℕ) → Charger → ℕ → ℕ
lower measure c p = sum_by measure (take p c.settings)

abbrev pub higher : (SettingsData → ℕ) → Charger → ℕ → ℕ
higher measure c p = sum_by measure (drop (p + 1) c.settings)

abbrev pub settings_at : Charger → ℕ → SettingsData
settings_at c p = slice_index_or c.settings p no_settings

abbrev pub floor_at : Charger → ℕ → ℕ
floor_at c p = floor_of (settings_at c p)

-- the least that is ever free to a port: what the least budget leaves where each other port holds its most, and at least the floor
unfoldable pub free_at_least : Charger → ℕ → ℕ
free_at_least c p = max (floor_at c p) (c.least - (lower greatest_hold c p + higher greatest_hold c p))

-- the most: what the greatest budget leaves where each other port holds its floor alone
unfoldable pub free_at_most : Charger → ℕ → ℕ
free_at_most c p = max (floor_at c p) (c.greatest - (lower floor_of c p + higher floor_of c p))

-- The greatest hold that no change of the budget takes from a port: what the least budget leaves where each port before it, which is
-- told of the change first, holds its most, and each port after it its floor alone; and at least the floor.
unfoldable pub kept_up_to : Charger → ℕ → ℕ
kept_up_to c p = max (floor_at c p) (c.least - (lower greatest_hold c p + higher floor_of c p))

-- ---- what is told

-- what is sure of a port, which is numbered from 1 here: its floor, and the bounds, in microwatts; and whether it never holds more than
-- what no change of the budget takes from it
abbrev pub port_bounds : Charger → ℕ → PortBounds
port_bounds c p = record {
  port = p + 1;
  floor = floor_at c p;
  free_at_least = free_at_least c p;
  free_at_most = free_at_most c p;
  kept_up_to = kept_up_to c p;
  is_always_kept = nat_le (greatest_hold (settings_at c p)) (kept_up_to c p);
}

-- what a cable of 5 A, and each other, carries in mA
abbrev pub five_amperes : ℕ
five_amperes = 5000

abbrev pub three_amperes : ℕ
three_amperes = 3000

-- The least current in mA that a supply is offered at where so much power is free to its port: through a cable that the source knows to
-- carry 5 A, and through another. The supply is numbered from 1 here.
abbrev pub supply_bounds : ℕ → ℕ → SupplyData → SupplyBounds
supply_bounds free position s = record {
  position = position;
  mv = s.mv;
  at_least = offered free five_amperes s;
  at_least_by_three = offered free three_amperes s;
}
