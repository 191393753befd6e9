-- Facts on codes as a user gives them.
use Rattle.std.proofs.Common.{◌≡◌, ◌==◌, ℕ, zero, suc, ◌+◌, ◌*◌, ◌/◌, ◌%◌, ◌<◌, List, [], ◌∷◌, ◌++◌, map, length, refl, sym, ap, ◌∙◌, arith}
use Rattle.std.specs.Prelude.{slice_index_or}
use Rattle.std.specs.Char.{to_ascii_uppercase}
use Rattle.std.specs.List.{AllByRecursion, slice_split}
use Rattle.pd_decode.specs.Argument.{Gives}
use Rattle.std.proofs.lemmas.List.{map-append}
use Rattle.pd_symbols.specs.Words.{nibbles}
use Rattle.pd_symbols.specs.Hex.{hex_digit, hex_digits}

-- a code's two digits
pub hex_digits-two : (code : ℕ) → hex_digits 2 code ≡ hex_digit (code / 16 % 16) ∷ hex_digit (code % 16) ∷ []
unfolding hex_digits nibbles
hex_digits-two code = refl

-- the text of a code, in upper case
abbrev pub IsCodeText : List ℕ → ℕ → Type 0
IsCodeText part code = map to_ascii_uppercase part ≡ hex_digits 2 code

pub code_text-two : (part : List ℕ) (code : ℕ) → IsCodeText part code → length part ≡ 2
code_text-two [] code e = let f = e ∙ hex_digits-two code in absurd cc
code_text-two (a ∷ []) code e = let f = e ∙ hex_digits-two code in absurd cc
code_text-two (a ∷ b ∷ []) code e = refl
code_text-two (a ∷ b ∷ d ∷ more) code e = let f = e ∙ hex_digits-two code in absurd cc

pub record IsTwoDigits (part : List ℕ) (high low : ℕ) : Type 0 where
  pub two : length part ≡ 2
  pub first : to_ascii_uppercase (slice_index_or part 0 0) ≡ hex_digit high
  pub second : to_ascii_uppercase (slice_index_or part 1 0) ≡ hex_digit low

pub code_text_digits : (part : List ℕ) (code : ℕ) → IsCodeText part code → IsTwoDigits part (code / 16 % 16) (code % 16)
code_text_digits part code e = by_case part e (code_text-two part code e)
  where
    by_case : (part : List ℕ) → IsCodeText part code → length part ≡ 2 → IsTwoDigits part (code / 16 % 16) (code % 16)
    by_case [] e two = absurd (omega arith)
    by_case (a ∷ []) e two = absurd (omega arith)
    by_case (a ∷ b ∷ []) e two = let f = e ∙ hex_digits-two code in record { two = two; first = cc; second = cc }
    by_case (a ∷ b ∷ d ∷ more) e two = absurd (omega arith)

pub digits_code_text : (part : List ℕ) (high low : ℕ) → high < 16 → low < 16 → IsTwoDigits part high low → IsCodeText part (16 * high + low)
digits_code_text part high low lt lt' digits = by_case part digits
  where
    above : (16 * high + low) / 16 % 16 ≡ high
    above = omega arith

    below : (16 * high + low) % 16 ≡ low
    below = omega arith

    by_case : (part : List ℕ) → IsTwoDigits part high low → IsCodeText part (16 * high + low)
    by_case [] d = let e = d.two in absurd (omega arith)
    by_case (a ∷ []) d = let e = d.two in absurd (omega arith)
    by_case (a ∷ b ∷ []) d =
        let first = d.first in
        let second = d.second in
        let text = hex_digits-two (16 * high + low) in
        cc (above, below)
    by_case (a ∷ b ∷ e ∷ more) d = let e = d.two in absurd (omega arith)

-- each part is the text of a code
pub part_is_code : (parts : List (List ℕ)) (codes : List ℕ) (i : ℕ) (part : List ℕ) →
    map (map to_ascii_uppercase) parts ≡ map (hex_digits 2) codes → i < length parts → (code : ℕ)
    × IsCodeText (slice_index_or parts i part) code
part_is_code [] codes i part e lt = absurd (omega arith)
part_is_code (p ∷ parts) [] i part e lt = absurd cc
part_is_code (p ∷ parts) (code ∷ codes) zero part e lt = (code, cc)
part_is_code (p ∷ parts) (code ∷ codes) (suc i) part e lt = part_is_code parts codes i part (cc) (omega arith)

-- the first parts are the texts of these codes
pub record IsSoFar (parts : List (List ℕ)) (codes : List ℕ) : Type 0 where
  pub bytes : AllByRecursion (λ code. code < 256) codes
  pub texts : map (map to_ascii_uppercase) parts ≡ map (hex_digits 2) codes

bytes-push : (codes : List ℕ) (code : ℕ) → AllByRecursion (λ c. c < 256) codes → code < 256 →
    AllByRecursion (λ c. c < 256) (codes ++ code ∷ [])
bytes-push [] code all lt = (lt, tt)
bytes-push (c ∷ codes) code all lt = (all.0, bytes-push codes code all.1 lt)

pub SoFar-push : (parts : List (List ℕ)) (codes : List ℕ) (part : List ℕ) (code : ℕ) → IsSoFar parts codes → IsCodeText part code →
    code < 256 → IsSoFar (parts ++ part ∷ []) (codes ++ code ∷ [])
SoFar-push parts codes part code s e lt = record {
  bytes = bytes-push codes code s.bytes lt;
  texts =
      map-append (map to_ascii_uppercase) parts (part ∷ []) ∙ ap (λ t. t ++ map to_ascii_uppercase part ∷ []) s.texts
      ∙ ap (λ t. map (hex_digits 2) codes ++ t ∷ []) e ∙ sym (map-append (hex_digits 2) codes (code ∷ []));
}

-- All parts are the texts of these codes.
pub SoFar-all : (text : List ℕ) (parts : List (List ℕ)) (codes : List ℕ) → IsSoFar parts codes →
    parts ≡ slice_split (λ byte. byte == 32) text → Gives text codes
SoFar-all text parts codes s e = record { bytes = s.bytes; parts = ap (map (map to_ascii_uppercase)) (sym e) ∙ s.texts }

-- A part is not the text of a code.
pub no_part_fails : (text : List ℕ) (i : ℕ) (part : List ℕ)
    → (i < length (slice_split (λ byte. byte == 32) text)) × (part ≡ slice_index_or (slice_split (λ byte. byte == 32) text) i part)
    → ((code : ℕ) → ¬ IsCodeText part code) → (codes : List ℕ) → ¬ Gives text codes
no_part_fails text i part at fails codes gives =
    let code = part_is_code (slice_split (λ byte. byte == 32) text) codes i part gives.parts at.0 in
    fails code.0 (ap (map to_ascii_uppercase) at.1 ∙ code.1)
