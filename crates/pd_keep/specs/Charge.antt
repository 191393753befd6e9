-- What a single move costs.
use Rattle.std.specs.Prelude.{◌≡◌, ◌⊎◌, ℕ, List, Contains}
use Rattle.pd_port.specs.Meter.{raised}
use Rattle.pd_keep.specs.Kept.{KeptData}

-- the meter counts one step, unless the old run has this move
abbrev pub Charges : List KeptData → KeptData → ℕ → ℕ → Type 0
Charges old k before after = (Contains old k × (after ≡ before)) ⊎ ((Contains old k → ⊥) × (after ≡ raised before 1))
