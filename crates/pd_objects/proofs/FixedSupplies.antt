-- The fields of an object that was put together from them.
use Rattle.std.proofs.Common.{◌≡◌, ℕ, arith}
use Rattle.pd_objects.specs.FixedSupply.{FixedSupplyData, IsFixedSupply, HasFields, word_of, fixed_supply_of}

pub HasFields-word_of : (v : FixedSupplyData) → IsFixedSupply v → HasFields (word_of v) v
unfolding word_of
HasFields-word_of v h =
    let a = h.flags_fit in
    let b = h.peak_current_fits in
    let c = h.voltage_fits in
    let d = h.current_fits in
    record {
      kind = omega arith;
      flags = omega arith;
      reserved = omega arith;
      peak_current = omega arith;
      voltage = omega arith;
      current = omega arith;
    }

pub fixed_supply_of-word : (w : ℕ) (v : FixedSupplyData) → HasFields w v → fixed_supply_of w ≡ v
fixed_supply_of-word w v h = λ i. record {
  flags = h.flags i;
  peak_current = h.peak_current i;
  voltage = h.voltage i;
  current = h.current i;
}
