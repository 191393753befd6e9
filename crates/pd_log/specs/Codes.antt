-- The code that a part of a line stands for.
use Rattle.std.specs.Prelude.{ℕ, ◌+◌, ◌-◌, ◌*◌, ◌&&◌, ◌||◌, ◌==◌, nat_le, List, [], ◌∷◌, Option, Some, None, option_map, bytes_eq, codes}
use Rattle.std.specs.Prelude.{if◌then◌else◌}
use Rattle.pd_symbols.specs.declared.symbol.KCode.{KCode}
use Rattle.pd_symbols.specs.declared.symbol.KCode.TheVariants.{Sync1, Sync2, Sync3, Rst1, Rst2, Eop}
use Rattle.pd_symbols.specs.declared.symbol.Symbol.TheVariants.{K}
use Rattle.pd_symbols.specs.Codes as symbols
use Rattle.pd_log.specs.Parts.{◌>>=◌}

-- the value of a hexadecimal digit of either case
abbrev pub digit_of : ℕ → Option ℕ
digit_of c =
    if nat_le 48 c && nat_le c 57 then Some (c - 48)
    else if nat_le 65 c && nat_le c 70 then Some (c - 55)
    else if nat_le 97 c && nat_le c 102 then Some (c - 87)
    else None

-- the number of two digits
abbrev pub pair_of : ℕ → ℕ → Option ℕ
pair_of high low = do
  h ← digit_of high
  l ← digit_of low
  Some (16 * h + l)

-- the digits without 0x before them
abbrev pub without_0x : List ℕ → List ℕ
without_0x (a ∷ b ∷ rest) = if a == 48 && (b == 120 || b == 88) then rest else a ∷ b ∷ rest
without_0x part = part

-- a code in two hexadecimal digits
abbrev pub hexadecimal_of : List ℕ → Option ℕ
hexadecimal_of (high ∷ low ∷ []) = pair_of high low
hexadecimal_of _ = None

-- a binary digit
abbrev pub bit_of : ℕ → Option ℕ
bit_of c = if c == 48 then Some 0 else if c == 49 then Some 1 else None

-- a code in five binary digits, the highest first
abbrev pub binary_of : List ℕ → Option ℕ
binary_of (a ∷ b ∷ c ∷ d ∷ e ∷ []) = do
  v ← bit_of a
  w ← bit_of b
  x ← bit_of c
  y ← bit_of d
  z ← bit_of e
  Some (16 * v + (8 * w + (4 * x + (2 * y + z))))
binary_of _ = None

-- a K-code by its name in the standard
abbrev pub named : List ℕ → Option KCode
named part =
    if bytes_eq part (codes "Sync-1") then Some Sync1
    else if bytes_eq part (codes "Sync-2") then Some Sync2
    else if bytes_eq part (codes "Sync-3") then Some Sync3
    else if bytes_eq part (codes "RST-1") then Some Rst1
    else if bytes_eq part (codes "RST-2") then Some Rst2
    else if bytes_eq part (codes "EOP") then Some Eop
    else None

-- the first that is there
abbrev pub or_else : {A : Type 0} → Option A → Option A → Option A
or_else (Some x) other = Some x
or_else None other = other

-- a code: a K-code's name, five binary digits, or two hexadecimal digits
abbrev pub code_of : List ℕ → Option ℕ
code_of part =
    or_else (option_map (λ k. symbols.code_of (K k)) (named part)) (or_else (binary_of part) (hexadecimal_of (without_0x part)))
