-- The objects of Source_Capabilities.
use Rattle.std.proofs.Common.{◌≡◌, ℕ, ◌≤◌, ◌/◌, ◌%◌, Bool, true, false, min, arith}
use Rattle.pd_objects.specs.Supply.{SupplyData, IsSupply}
use Rattle.pd_objects.specs.FixedSupply.{word_of}
use Rattle.pd_source.specs.Acts.{object_of}
use Rattle.pd_source.specs.Laws.{Offers}

pub Offers-object_of : (unconstrained : Bool) (supply : SupplyData) (ma : ℕ) → IsSupply supply → ma ≤ supply.ma → ma % 10 ≡ 0 →
    Offers (object_of unconstrained supply ma) unconstrained supply ma
unfolding word_of
Offers-object_of true supply ma h most steps =
    let a = h.most_mv in
    let b = h.steps_mv in
    let c = h.most_ma in
    let m : min (ma / 10) 1023 ≡ ma / 10 = omega arith in
    record {
      fixed = rw m (omega arith);
      no_dual_role_no_suspend = rw m (omega arith);
      unconstrained_power = rw m (omega arith);
      no_other_flag = rw m (omega arith);
      no_peak_current = rw m (omega arith);
      voltage = rw m (omega arith);
      current = rw m (omega arith);
    }
Offers-object_of false supply ma h most steps =
    let a = h.most_mv in
    let b = h.steps_mv in
    let c = h.most_ma in
    let m : min (ma / 10) 1023 ≡ ma / 10 = omega arith in
    record {
      fixed = rw m (omega arith);
      no_dual_role_no_suspend = rw m (omega arith);
      unconstrained_power = rw m (omega arith);
      no_other_flag = rw m (omega arith);
      no_peak_current = rw m (omega arith);
      voltage = rw m (omega arith);
      current = rw m (omega arith);
    }
