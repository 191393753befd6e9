-- The objects of Sink_Capabilities.
use Rattle.std.proofs.Common.{◌≡◌, ℕ, ◌*◌, ◌/◌, ◌%◌, ◌<◌, ◌≤◌, min, Bool, true, false, arith}
use Rattle.std.specs.Int.{div_ceil}
use Rattle.pd_objects.specs.SinkSupply.{sink_word_of}
use Rattle.pd_setup.specs.Sinks.{SinkData}
use Rattle.pd_sink.specs.Rule.{need_of}
use Rattle.pd_sink.specs.Objects.{sink_object}
use Rattle.pd_sink.specs.Laws.{Tells}

-- the object of a voltage v and a current c, in the object's units
tells-of : (higher : Bool) (v c : ℕ) → v < 1024 → c < 1024 →
    Tells (sink_word_of (record { higher_capability = higher; voltage = v; current = c })) higher (v * 50) (c * 10)
unfolding sink_word_of
tells-of true v c h k =
    record {
      fixed = omega arith;
      no_dual_role_power = omega arith;
      higher_capability = omega arith;
      no_other_flag = omega arith;
      voltage = omega arith;
      current = omega arith;
    }
tells-of false v c h k =
    record {
      fixed = omega arith;
      no_dual_role_power = omega arith;
      higher_capability = omega arith;
      no_other_flag = omega arith;
      voltage = omega arith;
      current = omega arith;
    }

-- the same, in mV and mA
retold : (w : ℕ) (higher : Bool) (mv ma v c : ℕ) → v ≡ mv → c ≡ ma → Tells w higher v c → Tells w higher mv ma
retold w higher mv ma v c p q h =
    record {
      fixed = h.fixed;
      no_dual_role_power = h.no_dual_role_power;
      higher_capability = h.higher_capability;
      no_other_flag = h.no_other_flag;
      voltage = let a = h.voltage in omega arith;
      current = let a = h.current in omega arith;
    }

-- the lesser of a multiple of 10 and another
lesser : (n m : ℕ) → m ≤ 5000 → m % 10 ≡ 0 → (min (n * 10) m / 10 * 10 ≡ min (n * 10) m) × (min (n * 10) m / 10 < 1024)
lesser n m h k = (omega arith, omega arith)

pub Tells-sink_object : (higher : Bool) (sink : SinkData) (mv most_ma : ℕ) → mv ≤ 20000 → mv % 50 ≡ 0 → most_ma ≤ 5000 → most_ma % 10 ≡ 0 →
    Tells (sink_object higher sink mv most_ma) higher mv (min (need_of mv sink.demand_mw) most_ma)
Tells-sink_object higher sink mv most_ma h k l m =
    let s = lesser (div_ceil (sink.demand_mw * 1000) (mv * 10)) most_ma l m in
    let v : mv / 50 * 50 ≡ mv = omega arith in
    let w : mv / 50 < 1024 = omega arith in
    retold (sink_object higher sink mv most_ma) higher mv (min (need_of mv sink.demand_mw) most_ma) (mv / 50 * 50)
    (min (need_of mv sink.demand_mw) most_ma / 10 * 10) v s.0
    (tells-of higher (mv / 50) (min (need_of mv sink.demand_mw) most_ma / 10) w s.1)
