-- What a call of a device does to its bytes and to its count of failed calls.
use Rattle.std.specs.Prelude.{◌≡◌, ℕ, ◌+◌, ◌-◌, ◌^◌, ◌<◌, ◌≤◌, min, List, ◌++◌, length, take, MatchResult, Result, Option}
use Rattle.std.specs.Io.KnownBytes.{Appends}
use Rattle.pd_device.specs.declared.fault.BenchFault.{BenchFault}
use Rattle.pd_device.specs.declared.fault.BenchFault.TheVariants.{WriteFailed}

-- the count after one more failed call: it stays at its greatest value
abbrev pub one_more : ℕ → ℕ
one_more n = min (n + 1) (2 ^ 64 - 1)

-- out is what the first bytes of a text are
abbrev pub Begins : List ℕ → List ℕ → Type 0
Begins out text = (rest : List ℕ) × (text ≡ out ++ rest)

-- a write took at most the bytes; it failed where it says so, and where it took no byte of some
abbrev pub CountsWrite : {E : Type 0} → ℕ → ℕ → Result ℕ E → List ℕ → Type 0
CountsWrite old new r bytes = MatchResult r
    (λ n. (n ≤ length bytes) × (0 < n → new ≡ old) × (length bytes ≡ 0 → new ≡ old) × (n ≡ 0 → 0 < length bytes → new ≡ one_more old))
    (λ _. new ≡ one_more old)

-- a read gave at most the space; it failed where it says so
abbrev pub CountsRead : {E : Type 0} → ℕ → ℕ → Result ℕ E → List ℕ → Type 0
CountsRead old new r space = MatchResult r (λ n. (n ≤ length space) × (new ≡ old)) (λ _. new ≡ one_more old)

-- the known bytes of a writer grew by the first bytes of a text
pub record WrotePart (old new : Option (List ℕ)) (text : List ℕ) : Type 0 where
  pub out : List ℕ
  pub begins : Begins out text
  pub appends : Appends old new out

-- a write appended the bytes that it took; one that failed appended some first bytes of what it was handed, or none
abbrev pub WritesSome : {E : Type 0} → Option (List ℕ) → Option (List ℕ) → Result ℕ E → List ℕ → Type 0
WritesSome old new r bytes = MatchResult r (λ n. Appends old new (take n bytes)) (λ _. WrotePart old new bytes)

-- the text was written, or the writer failed after the first bytes of it
abbrev pub Writes : {T : Type 0} → Option (List ℕ) → Option (List ℕ) → Result T BenchFault → List ℕ → Type 0
Writes old new r text = MatchResult r (λ _. Appends old new text) (λ fault. (fault ≡ WriteFailed) × WrotePart old new text)

-- the count of failed calls says whether one failed
abbrev pub CountsFailure : {T E : Type 0} → ℕ → ℕ → Result T E → Type 0
CountsFailure old new r = MatchResult r (λ _. new ≡ old) (λ _. new ≡ one_more old)
