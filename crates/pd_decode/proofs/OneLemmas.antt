-- A text gives codes in one way, and comes to one thing.
use Rattle.std.proofs.Common.{◌≡◌, ◌==◌, ℕ, ◌/◌, ◌%◌, ◌<◌, List, [], ◌∷◌, map, refl, sym, ap, subst, ◌∙◌, inl, inr, arith}
use Rattle.std.specs.Prelude.{if◌then◌else◌, Option, Some, Result, Ok, Err}
use Rattle.std.proofs.lemmas.Bool.{cases_lt}
use Rattle.std.specs.List.{AllByRecursion}
use Rattle.std.proofs.lemmas.Bool.Decides.{nat_tests}
use Rattle.pd_symbols.specs.Hex.{hex_digit, hex_digits}
use Rattle.pd_packet.specs.declared.fault.PacketFault.{PacketFault}
use Rattle.pd_packet.specs.declared.fault.PacketFault.TheVariants as fault
use Rattle.pd_packet.specs.Contents.{Contents}
use Rattle.pd_packet.specs.Reading.{IsFirstFault, Reads, number_of}
use Rattle.pd_decode.specs.declared.decoded.Decoded.TheVariants as decoded
use Rattle.pd_decode.specs.Argument.{Gives}
use Rattle.pd_decode.specs.Laws.{OneDecoding, OneGiving}
use Rattle.pd_decode.proofs.ArgumentLemmas.{hex_digits-two}

hex_digit-one : (m n : ℕ) → m < 16 → n < 16 → hex_digit m ≡ hex_digit n → m ≡ n
hex_digit-one m n lt lt' e = grind (arith, nat_tests)

code-one : (c d : ℕ) → c < 256 → d < 256 → hex_digits 2 c ≡ hex_digits 2 d → c ≡ d
code-one c d lt lt' e =
    let f = sym (hex_digits-two c) ∙ e ∙ hex_digits-two d in
    let high : c / 16 % 16 ≡ d / 16 % 16 = hex_digit-one (c / 16 % 16) (d / 16 % 16) (omega arith) (omega arith) (cc) in
    let low : c % 16 ≡ d % 16 = hex_digit-one (c % 16) (d % 16) (omega arith) (omega arith) (cc) in
    omega arith

codes-one : (cs ds : List ℕ) → AllByRecursion (λ c. c < 256) cs → AllByRecursion (λ c. c < 256) ds →
    map (hex_digits 2) cs ≡ map (hex_digits 2) ds → cs ≡ ds
codes-one [] [] a b e = refl
codes-one [] (d ∷ ds) a b e = absurd cc
codes-one (c ∷ cs) [] a b e = absurd cc
codes-one (c ∷ cs) (d ∷ ds) a b e =
    let same : c ≡ d = code-one c d a.0 b.0 (cc) in
    let rest : cs ≡ ds = codes-one cs ds a.1 b.1 (cc) in
    cc

pub giving-one : OneGiving
giving-one text given others g h = codes-one given others g.bytes h.bytes (sym g.parts ∙ h.parts)

-- the fault of a number
fault_of : ℕ → Option PacketFault
fault_of n =
    if n == 1 then Some fault.Set else if n == 2 then Some fault.Code else if n == 3 then Some fault.Length
    else if n == 4 then Some fault.Eop else Some fault.Check

fault_of-number : (f : PacketFault) → fault_of (number_of f) ≡ Some f
unfolding fault_of
fault_of-number fault.Set = refl
fault_of-number fault.Code = refl
fault_of-number fault.Length = refl
fault_of-number fault.Eop = refl
fault_of-number fault.Check = refl

-- the first fault that applies is one
faults-one : (s : List ℕ) (f g : PacketFault) → IsFirstFault s f → IsFirstFault s g → f ≡ g
faults-one s f g h k =
    elim (cases_lt (number_of f) (number_of g)) [
      | inl below ↦ absurd (k.first f below h.applies)
      | inr le ↦ elim (cases_lt (number_of g) (number_of f)) [
        | inl below ↦ absurd (h.first g below k.applies)
        | inr ge ↦
            let same : number_of f ≡ number_of g = omega arith in
            let found : Some f ≡ Some g = sym (fault_of-number f) ∙ ap fault_of same ∙ fault_of-number g in
            cc
      ]
    ]

-- reading codes answers one thing
reads-one : (s : List ℕ) (r t : Result Contents PacketFault) → Reads s r → Reads s t → r ≡ t
reads-one s (Ok p) t h k = sym (k.only p h.found)
reads-one s (Err f) (Ok q) h k = h.only q k.found
reads-one s (Err f) (Err g) h k = ap (λ e. Err e) (faults-one s f g h.first k.first)

answers-one : (text : List ℕ) (cs ds : List ℕ) (r t : Result Contents PacketFault) → Gives text cs → Gives text ds → Reads cs r →
    Reads ds t → r ≡ t
answers-one text cs ds r t g h read other =
    let same : ds ≡ cs = giving-one text ds cs h g in
    reads-one cs r t read (subst (λ (s : List ℕ). Reads s t) same other)

pub decoding-one : OneDecoding
decoding-one text (decoded.Packet p) (decoded.Packet q) h k = let e = answers-one text h.0 k.0 (Ok p) (Ok q) h.1 k.1 h.2 k.2 in cc
decoding-one text (decoded.Packet p) (decoded.Fault g) h k = let e = answers-one text h.0 k.0 (Ok p) (Err g) h.1 k.1 h.2 k.2 in absurd cc
decoding-one text (decoded.Packet p) decoded.Refused h k = absurd (k h.0 h.1)
decoding-one text (decoded.Fault f) (decoded.Packet q) h k = let e = answers-one text h.0 k.0 (Err f) (Ok q) h.1 k.1 h.2 k.2 in absurd cc
decoding-one text (decoded.Fault f) (decoded.Fault g) h k = let e = answers-one text h.0 k.0 (Err f) (Err g) h.1 k.1 h.2 k.2 in cc
decoding-one text (decoded.Fault f) decoded.Refused h k = absurd (k h.0 h.1)
decoding-one text decoded.Refused (decoded.Packet q) h k = absurd (h k.0 k.1)
decoding-one text decoded.Refused (decoded.Fault g) h k = absurd (h k.0 k.1)
decoding-one text decoded.Refused decoded.Refused h k = refl
