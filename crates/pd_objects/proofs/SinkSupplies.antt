-- The fields of a sink's object that was put together from them.
use Rattle.std.proofs.Common.{◌≡◌, ◌==◌, ℕ, ◌<◌, Bool, true, false, refl, ap, ◌∙◌, arith}
use Rattle.pd_symbols.specs.Words.{field}
use Rattle.pd_objects.specs.SinkSupply.{SinkSupplyData, IsSinkSupply, HasSinkFields, bit, sink_word_of, sink_supply_of}

bit_below : (b : Bool) → bit b < 2
bit_below true = omega arith
bit_below false = omega arith

is_bit : (b : Bool) → (bit b == 1) ≡ b
is_bit true = refl
is_bit false = refl

pub HasSinkFields-word_of : (v : SinkSupplyData) → IsSinkSupply v → HasSinkFields (sink_word_of v) v
unfolding sink_word_of
HasSinkFields-word_of v h =
    let a = bit_below v.higher_capability in
    let b = h.voltage_fits in
    let c = h.current_fits in
    record {
      kind = omega arith;
      dual_role_power = omega arith;
      higher_capability = omega arith;
      others = omega arith;
      voltage = omega arith;
      current = omega arith;
    }

pub sink_supply_of-word : (w : ℕ) (v : SinkSupplyData) → HasSinkFields w v → sink_supply_of w ≡ v
sink_supply_of-word w v h =
    let higher : (field w 28 28 == 1) ≡ v.higher_capability = ap (λ (n : ℕ). n == 1) h.higher_capability ∙ is_bit v.higher_capability in
    λ i. record { higher_capability = higher i; voltage = h.voltage i; current = h.current i }
