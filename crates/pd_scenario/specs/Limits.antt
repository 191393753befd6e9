-- This product's own limits of a scenario.
use Rattle.std.specs.Prelude.{ℕ, ◌%◌, Bool, ◌&&◌, ◌==◌, nat_le}
use Rattle.pd_scenario.specs.declared.limits.Quantity.{Quantity}
use Rattle.pd_scenario.specs.declared.limits.Quantity.TheVariants.{EventId, Time, Budget, Floor, Voltage, Current, Demand, IdentityTries}
use Rattle.pd_scenario.specs.declared.limits.Quantity.TheVariants.{DamagePlace, DamageMask}

-- the numbers from one to another, or those of them that are multiples of a step
pub data Range : Type 0 where
  between : ℕ → ℕ → Range
  stepped : ℕ → ℕ → ℕ → Range

-- Times are in microseconds, powers in mW, voltages in mV, currents in mA.
abbrev pub range_of : Quantity → Range
range_of EventId = between 1 1000000
range_of Time = between 0 120000000
range_of Budget = between 500 1000000
range_of Floor = between 500 100000
range_of Voltage = stepped 5000 20000 50
range_of Current = stepped 10 5000 10
range_of Demand = between 50 100000
range_of IdentityTries = between 0 20
range_of DamagePlace = between 0 68
range_of DamageMask = between 1 31

abbrev pub is_in : Range → ℕ → Bool
is_in (between low high) n = nat_le low n && nat_le n high
is_in (stepped low high step) n = (nat_le low n && nat_le n high) && (n % step == 0)

-- the number is within the limits of the quantity
abbrev pub allows : Quantity → ℕ → Bool
allows quantity n = is_in (range_of quantity) n

-- one of n ports, numbered from 1
abbrev pub is_port : ℕ → ℕ → Bool
is_port n port = nat_le 1 port && nat_le port n

-- the most ports, cables or sinks, and events
abbrev pub most_ports : ℕ
most_ports = 8

abbrev pub most_names : ℕ
most_names = 64

abbrev pub most_events : ℕ
most_events = 4096

-- the most supplies of a port, and the voltage of the first
abbrev pub most_supplies : ℕ
most_supplies = 7

abbrev pub first_mv : ℕ
first_mv = 5000
