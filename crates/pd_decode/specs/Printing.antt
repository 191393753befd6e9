-- What is printed of the codes that a user gives.
use Rattle.std.specs.Prelude.{◌≡◌, ℕ, List, Option, Result, IfOk}
use Rattle.pd_device.specs.declared.fault.BenchFault.{BenchFault}
use Rattle.pd_device.specs.Device.{Writes}
use Rattle.pd_decode.specs.declared.decoded.Decoded.{Decoded}
use Rattle.pd_decode.specs.Decoding.{Decodes, decoded_text, status_of}

-- What the text comes to is written to a writer with these known bytes, and the status is answered.
pub record Prints (text : List ℕ) (old new : Option (List ℕ)) (result : Result ℕ BenchFault) : Type 0 where
  pub decoded : Decoded
  pub decodes : Decodes text decoded
  pub written : Writes old new result (decoded_text decoded)
  pub status : IfOk result (λ status. status ≡ status_of decoded)
