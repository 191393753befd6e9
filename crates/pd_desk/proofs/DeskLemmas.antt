-- Facts on a reason that is written in two parts, and on a space that one byte is put into.
use Rattle.std.proofs.Common.{◌≡◌, ℕ, ◌==◌, false, List, [], ◌∷◌, ◌++◌, take, length, codes, slice_set}
use Rattle.std.proofs.Common.{Option, Some, Result, Ok, Err, refl, subst}
use Rattle.std.specs.Io.KnownBytes.{Appends}
use Rattle.std.proofs.KnownBytes.{Appends-trans}
use Rattle.pd_device.specs.declared.fault.BenchFault.{BenchFault}
use Rattle.pd_device.specs.Device.{WrotePart, Writes}
use Rattle.pd_device.proofs.DeviceLemmas.{WrotePart-after, WrotePart-longer}
use Rattle.pd_desk.specs.Reasons.{as_line}

-- more, written after a text
pub writes_after : (told : Result (Unit {0}) BenchFault) (a b c : Option (List ℕ)) (text more : List ℕ) → Appends a b text
    → Writes b c told more → Writes a c told (text ++ more)
writes_after (Ok done) a b c text more first w = Appends-trans a b c text more first w
writes_after (Err fault) a b c text more first w = (w.0, WrotePart-after a b c text more first w.1)

-- a sentence, and then its line feed
pub line_written : (told : Result (Unit {0}) BenchFault) (a b c : Option (List ℕ)) (bytes sentence : List ℕ) (reason : Option (List ℕ))
    → bytes ≡ sentence → Some sentence ≡ reason → Appends a b bytes → Writes b c told (codes "\n") → Writes a c told (as_line reason)
line_written told a b c bytes sentence reason same is first w =
    let P : Option (List ℕ) → Type 0 = λ r. Writes a c told (as_line r) in
    let Q : List ℕ → Type 0 = λ s. Writes a c told (s ++ codes "\n") in
    subst P is (subst Q same (writes_after told a b c bytes (codes "\n") first w))

-- a sentence of which only the first bytes were written
pub line_cut : (a b : Option (List ℕ)) (bytes sentence : List ℕ) (reason : Option (List ℕ))
    → bytes ≡ sentence → Some sentence ≡ reason → WrotePart a b bytes → WrotePart a b (as_line reason)
line_cut a b bytes sentence reason same is w =
    let P : Option (List ℕ) → Type 0 = λ r. WrotePart a b (as_line r) in
    let Q : List ℕ → Type 0 = λ s. WrotePart a b (s ++ codes "\n") in
    subst P is (subst Q same (WrotePart-longer a b bytes (codes "\n") w))

pub first_set : (space : List ℕ) (byte : ℕ) → false ≡ (length space == 0) → take 1 (slice_set space 0 byte) ≡ byte ∷ []
first_set [] byte some = absurd (cc)
first_set (x ∷ xs) byte some = refl
