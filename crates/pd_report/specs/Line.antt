-- The head that the lines of contracts and faults share.
use Rattle.std.specs.Prelude.{ℕ, List, ◌++◌, decimal, codes}
use Rattle.pd_device.specs.Text.{right}

-- the time right in nine places, and the port
unfoldable pub at_port : ℕ → ℕ → List ℕ
at_port at port = right at ++ codes " port " ++ decimal port ++ codes " "
