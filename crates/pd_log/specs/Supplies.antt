-- The object of a supply as a kernel writes it: PDO 0: type 0, 5000 mV, 3000 mA [E]. The bits that such a line doesn't tell are 0: the
-- peak current and the flag of unchunked messages of a fixed supply, and the flag of limited power of a programmable one.
use Rattle.std.specs.Prelude.{ℕ, ◌+◌, ◌-◌, ◌*◌, ◌/◌, ◌&&◌, ◌==◌, nat_le, List, [], ◌∷◌, fold, length, codes, bytes_eq}
use Rattle.std.specs.Prelude.{Option, Some, None, is_some, if◌then◌else◌}
use Rattle.std.specs.List.{list_all, position_from}
use Rattle.std.specs.Char.{is_ascii_digit}
use Rattle.pd_log.specs.Forms.{behind_the}
use Rattle.pd_log.specs.Parts.{Parts, ◌>>=◌, next}
use Rattle.pd_log.specs.Stamps.{cut}

abbrev pub number_of : List ℕ → Option ℕ
number_of digits = if list_all is_ascii_digit digits then Some (fold (λ n c. 10 * n + (c - 48)) 0 digits) else None

-- a number in one to six digits
abbrev pub decimal_of : List ℕ → Option ℕ
decimal_of digits = if nat_le 1 (length digits) && nat_le (length digits) 6 then number_of digits else None

-- a number before its unit, and what stands behind the unit
abbrev pub amount : List ℕ → Parts → Option (ℕ × Parts)
amount unit ps = do
  number ← next ps
  value ← decimal_of number.0
  rest ← behind_the unit number.1
  Some (value, rest)

-- two voltages with a stroke between them, and what stands behind their unit
abbrev pub voltages : Parts → Option ((ℕ × ℕ) × Parts)
voltages ps = do
  numbers ← next ps
  both ← cut 45 numbers.0
  low ← decimal_of both.0
  high ← decimal_of both.1
  rest ← behind_the (codes "mV") numbers.1
  Some ((low, high), rest)

-- a value in steps of so much, this many at most, at its place among the bits
abbrev pub steps_at : ℕ → ℕ → ℕ → ℕ → Option ℕ
steps_at step most place value = if nat_le (value / step) most then Some (value / step * place) else None

-- a flag, where its letter is there
abbrev pub flag : ℕ → ℕ → List ℕ → ℕ
flag letter bit letters = if is_some (position_from (λ c. c == letter) 0 letters) then bit else 0

-- R: dual-role power; S: USB suspend, or higher capability of a sink; E: external power; U: USB communication; D: dual-role data
abbrev pub flags_of : List ℕ → ℕ
flags_of letters =
    flag 82 536870912 letters + (flag 83 268435456 letters + (flag 69 134217728 letters + (flag 85 67108864 letters
    + flag 68 33554432 letters)))

-- letters in brackets, which end the line
abbrev pub last_flags : Parts → Option ℕ
last_flags ((c ∷ cs) ∷ []) = if c == 91 then Some (flags_of cs) else None
last_flags _ = None

abbrev pub fixed_of : Parts → Option ℕ
fixed_of ps = do
  mv ← amount (codes "mV") ps
  ma ← amount (codes "mA") mv.1
  flags ← last_flags ma.1
  voltage ← steps_at 50 1023 1024 mv.0
  current ← steps_at 10 1023 1 ma.0
  Some (flags + (voltage + current))

-- what a line told, where it ends there
abbrev pub at_the_end : {A : Type 0} → Parts → A → Option A
at_the_end [] told = Some told
at_the_end (p ∷ ps) told = None

-- two voltages and another value with this unit, which end the line
abbrev pub ranged : List ℕ → Parts → Option ((ℕ × ℕ) × ℕ)
ranged unit ps = do
  both ← voltages ps
  other ← amount unit both.1
  at_the_end other.1 (both.0, other.0)

abbrev pub battery_of : Parts → Option ℕ
battery_of ps = do
  told ← ranged (codes "mW") ps
  highest ← steps_at 50 1023 1048576 told.0.1
  lowest ← steps_at 50 1023 1024 told.0.0
  power ← steps_at 250 1023 1 told.1
  Some (1073741824 + (highest + (lowest + power)))

abbrev pub variable_of : Parts → Option ℕ
variable_of ps = do
  told ← ranged (codes "mA") ps
  highest ← steps_at 50 1023 1048576 told.0.1
  lowest ← steps_at 50 1023 1024 told.0.0
  current ← steps_at 10 1023 1 told.1
  Some (2147483648 + (highest + (lowest + current)))

abbrev pub programmable_of : Parts → Option ℕ
programmable_of ps = do
  told ← ranged (codes "mA") ps
  highest ← steps_at 100 255 131072 told.0.1
  lowest ← steps_at 100 255 256 told.0.0
  current ← steps_at 50 127 1 told.1
  Some (3221225472 + (highest + (lowest + current)))

-- by the number of its type: 0 fixed, 1 battery, 2 variable, 3 programmable
abbrev pub object_of_type : List ℕ → Parts → Option ℕ
object_of_type kind ps =
    if bytes_eq kind (codes "0") then fixed_of ps
    else if bytes_eq kind (codes "1") then battery_of ps
    else if bytes_eq kind (codes "2") then variable_of ps
    else if bytes_eq kind (codes "3") then programmable_of ps
    else None

-- PDO, its index, type and the number of that, and what the supply is
abbrev pub supply_of : Parts → Option ℕ
supply_of ps = do
  rest ← behind_the (codes "PDO") ps
  index ← next rest
  typed ← behind_the (codes "type") index.1
  kind ← next typed
  object_of_type kind.0 kind.1
