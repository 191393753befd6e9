-- The objects that a sink sends: its capabilities and requests (USB Power Delivery 3.0, sections 6.4.1.3 and 6.4.2, by their
-- fields), with the values of this product's own rule.
use Rattle.std.specs.Prelude.{ℕ, ◌/◌, min, Bool, true, false, nat_lt, if◌then◌else◌, List, [], ◌∷◌}
use Rattle.pd_objects.specs.RequestObject.{request_word_of, capability_mismatch}
use Rattle.pd_objects.specs.SinkSupply.{sink_word_of}
use Rattle.pd_sink.specs.declared.rule.Asked.{Asked}
use Rattle.pd_setup.specs.Sinks.{SinkData}
use Rattle.pd_sink.specs.Rule.{need_of}

-- the object of a Request: the current is the operating and the maximum one, and no flag is set but the mismatch
abbrev pub request_object : Asked → ℕ
request_object asked =
    request_word_of (record {
      position = asked.position;
      flags = if asked.mismatch then capability_mismatch else 0;
      operating_current = asked.ma / 10;
      maximum_current = asked.ma / 10;
    })

-- an object of Sink_Capabilities: a voltage in mV, and the lesser of what is needed of it and a current in mA
abbrev pub sink_object : Bool → SinkData → ℕ → ℕ → ℕ
sink_object higher sink mv most_ma =
    sink_word_of (record { higher_capability = higher; voltage = mv / 50; current = min (need_of mv sink.demand_mw) most_ma / 10 })

-- The objects of Sink_Capabilities: 5 V at up to 3 A, and where the sink accepts more, the bit that tells so and its
-- greatest voltage at up to 5 A.
unfoldable pub sink_capabilities : SinkData → List ℕ
sink_capabilities sink =
    if nat_lt 5000 sink.max_mv
    then sink_object true sink 5000 3000 ∷ sink_object false sink sink.max_mv 5000 ∷ []
    else sink_object false sink 5000 3000 ∷ []
