-- The words that stand as values: this product's own, as docs/FORMATS.md has them under Sweep. None has a character for which JSON
-- has another spelling, nor a comma or a quotation mark.
use Rattle.std.specs.Prelude.{ℕ, ◌-◌, nat_le, Bool, true, false, List, ◌∷◌, codes, decimal, if◌then◌else◌}
use Rattle.pd_symbols.specs.declared.channel.Channel.{Channel}
use Rattle.pd_symbols.specs.declared.channel.Channel.TheVariants.{Sop, SopPrime}

abbrev pub truth : Bool → List ℕ
truth true = codes "true"
truth false = codes "false"

-- an ordered set
abbrev pub set_name : Channel → List ℕ
set_name Sop = codes "SOP"
set_name SopPrime = codes "SOP'"

-- how much more a number is than it was, with a minus sign where it is less
abbrev pub signed_text : ℕ → ℕ → List ℕ
signed_text old new = if nat_le old new then decimal (new - old) else 45 ∷ decimal (old - new)
