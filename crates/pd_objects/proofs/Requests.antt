-- The fields of a request's object that was put together from them.
use Rattle.std.proofs.Common.{◌≡◌, ℕ, arith}
use Rattle.pd_objects.specs.RequestObject.{RequestData, IsRequest, HasRequestFields, request_word_of, request_of}

pub HasRequestFields-word_of : (v : RequestData) → IsRequest v → HasRequestFields (request_word_of v) v
unfolding request_word_of
HasRequestFields-word_of v h =
    let a = h.position_fits in
    let b = h.flags_fit in
    let c = h.operating_current_fits in
    let d = h.maximum_current_fits in
    record {
      high = omega arith;
      position = omega arith;
      flags = omega arith;
      reserved = omega arith;
      operating_current = omega arith;
      maximum_current = omega arith;
    }

pub request_of-word : (w : ℕ) (v : RequestData) → HasRequestFields w v → request_of w ≡ v
request_of-word w v h =
    λ i. record {
      position = h.position i;
      flags = h.flags i;
      operating_current = h.operating_current i;
      maximum_current = h.maximum_current i;
    }
