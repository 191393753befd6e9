-- The requests of a sink (USB Power Delivery 3.0, section 6.4.2, by their fields): which of them are valid, the power that
-- they ask for, and the contract that they lead to, by this product's own rules.
use Rattle.std.specs.Prelude.{ℕ, ◌-◌, ◌*◌, Bool, false, ◌&&◌, ◌==◌, if◌then◌else◌, nat_le, List, Option, Some, None, slice_get, unwrap_or}
use Rattle.std.specs.Option.{option_map_or}
use Rattle.pd_objects.specs.Supply.{SupplyData}
use Rattle.pd_objects.specs.RequestObject.{request_of}
use Rattle.pd_objects.specs.declared.contract.Contract.{Contract}
use Rattle.pd_source.specs.declared.kinds.Revision.{Revision}
use Rattle.pd_source.specs.declared.kinds.Revision.TheVariants as revision

-- The position of the supply in the offer, from 1, and the two currents in mA: the object has them in 10 mA.
unfoldable pub position_of : ℕ → ℕ
position_of object = (request_of object).position

abbrev pub operating_ma : ℕ → ℕ
operating_ma object = 10 * (request_of object).operating_current

unfoldable pub maximum_ma : ℕ → ℕ
maximum_ma object = 10 * (request_of object).maximum_current

-- whether a current is offered and neither of a request's currents is above it
abbrev pub is_at_most : ℕ → Option ℕ → Bool
is_at_most object None = false
is_at_most object (Some ma) = nat_le (operating_ma object) ma && nat_le (maximum_ma object) ma

-- A request is valid where its position is in the offer and neither of its currents is above the offered one there.
unfoldable pub is_valid : List ℕ → ℕ → Bool
is_valid offer object = nat_le 1 (position_of object) && is_at_most object (slice_get offer (position_of object - 1))

-- the voltage in mV of the supply at a position, from 1
unfoldable pub voltage_at : List SupplyData → ℕ → ℕ
voltage_at supplies position = option_map_or (λ (supply : SupplyData). supply.mv) (slice_get supplies (position - 1)) 0

-- the power in microwatts that a request asks for: that of its maximum operating current
unfoldable pub power_of : List SupplyData → ℕ → ℕ
power_of supplies object = voltage_at supplies (position_of object) * maximum_ma object

-- the contract that a request of an offer leads to
unfoldable pub contract_of : List SupplyData → List ℕ → ℕ → Contract
contract_of supplies offer object = record {
  position = position_of object;
  mv = voltage_at supplies (position_of object);
  offered_ma = unwrap_or (slice_get offer (position_of object - 1)) 0;
  ma = maximum_ma object;
}

-- the power in microwatts of a contract
abbrev pub contract_power : Contract → ℕ
contract_power c = c.mv * c.ma

-- the revision that a header's bits tell: 01 is Revision 2.0
abbrev pub revision_of : ℕ → Revision
revision_of bits = if bits == 1 then revision.Revision2 else revision.Revision3
