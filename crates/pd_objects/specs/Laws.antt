-- Laws of the objects.
use Rattle.std.specs.Prelude.{◌≡◌}
use Rattle.pd_objects.specs.FixedSupply.{FixedSupplyData, IsFixedSupply, HasFields, word_of, fixed_supply_of}
use Rattle.pd_objects.specs.SinkSupply.{SinkSupplyData, IsSinkSupply, HasSinkFields, sink_word_of, sink_supply_of}
use Rattle.pd_objects.specs.RequestObject.{RequestData, IsRequest, HasRequestFields, request_word_of, request_of}

-- the object of a fixed supply has its fields, and so it is unpacked as that supply
abbrev pub FixedSuppliesComeBack : Type 0
FixedSuppliesComeBack =
    (v : FixedSupplyData) → IsFixedSupply v → HasFields (word_of v) v × (fixed_supply_of (word_of v) ≡ v)

-- the object of a sink's supply has its fields, and so it is unpacked as that supply
abbrev pub SinkSuppliesComeBack : Type 0
SinkSuppliesComeBack =
    (v : SinkSupplyData) → IsSinkSupply v → HasSinkFields (sink_word_of v) v × (sink_supply_of (sink_word_of v) ≡ v)

-- the object of a request has its fields, and so it is unpacked as that request
abbrev pub RequestsComeBack : Type 0
RequestsComeBack =
    (v : RequestData) → IsRequest v → HasRequestFields (request_word_of v) v × (request_of (request_word_of v) ≡ v)
