-- A text in a report ends nothing that it stands in.
use Rattle.std.proofs.Common.{◌≡◌, ◌≢◌, ◌≤◌, ◌<◌, ℕ, ◌+◌, ◌/◌, ◌%◌, Bool, true, false, List, [], ◌∷◌, refl, arith, ◌∙◌}
use Rattle.std.specs.Prelude.{◌==◌, nat_le, nat_lt, if◌then◌else◌}
use Rattle.std.specs.List.{flat_map, list_all}
use Rattle.std.proofs.lemmas.Bool.{ltb-false, ltb-true, le-leb, ne_eqb}
use Rattle.std.proofs.lemmas.List.Folds.{list_all-append}
use Rattle.pd_text.specs.Strings.{hex_digit}
use Rattle.pd_expect.specs.Laws.{TextsStayInside}
use Rattle.pd_expect.specs.Xml.{control_words, escaped, escaped_byte, is_held, is_inner, shown_byte}

abbrev are_inner : List ℕ → Bool
are_inner text = list_all is_inner text

either : (b : Bool) (x y : List ℕ) → are_inner x ≡ true → (b ≡ false → are_inner y ≡ true) → are_inner (if b then x else y) ≡ true
either true x y one other = one
either false x y one other = other refl

inner : (n : ℕ) → n ≢ 60 → n ≢ 62 → n ≢ 34 → 32 ≤ n → is_inner n ≡ true
inner n no60 no62 no34 high = rw (ne_eqb n 60 no60, ne_eqb n 62 no62, ne_eqb n 34 no34, le-leb 32 n high) refl

digit : (n : ℕ) → is_inner (hex_digit n) ≡ true
digit n = by_case (nat_lt n 10) refl
  where
    by_case : (b : Bool) → nat_lt n 10 ≡ b → is_inner (if b then 48 + n else 87 + n) ≡ true
    by_case true is =
        let low : n < 10 = ltb-true n 10 is in
        inner (48 + n) (λ e. omega (arith, e, low)) (λ e. omega (arith, e, low)) (λ e. omega (arith, e)) (omega arith)
    by_case false is =
        inner (87 + n) (λ e. omega (arith, e)) (λ e. omega (arith, e)) (λ e. omega (arith, e)) (omega arith)

control : (byte : ℕ) → are_inner (control_words byte) ≡ true
control byte = rw (digit (byte / 16), digit (byte % 16)) refl

plain : (byte : ℕ) → (byte == 60) ≡ false → (byte == 62) ≡ false → (byte == 34) ≡ false → nat_lt byte 32 ≡ false →
    are_inner (byte ∷ []) ≡ true
plain byte no60 no62 no34 high = let le : nat_le 32 byte ≡ true = le-leb 32 byte (ltb-false byte 32 high) in rw (no60, no62, no34, le) refl

escaped_inner : (byte : ℕ) → are_inner (escaped_byte byte) ≡ true
escaped_inner byte =
    either (byte == 38) _ _ refl (λ no38. either (byte == 60) _ _ refl (λ no60. either (byte == 62) _ _ refl (λ no62.
    either (byte == 34) _ _ refl (λ no34. either (byte == 9) _ _ refl (λ no9. either (byte == 10) _ _ refl (λ no10.
    either (byte == 13) _ _ refl (λ no13. either (nat_lt byte 32) _ _ (control byte) (plain byte no60 no62 no34))))))))

beyond : (byte : ℕ) → nat_lt byte 128 ≡ false → are_inner (byte ∷ []) ≡ true
beyond byte is =
    let high : 128 ≤ byte = ltb-false byte 128 is in
    let one : is_inner byte ≡ true =
    inner byte (λ e. omega (arith, e, high)) (λ e. omega (arith, e, high)) (λ e. omega (arith, e, high)) (omega (arith, high)) in
    rw one refl

shown_inner : (whole : Bool) (byte : ℕ) → are_inner (shown_byte whole byte) ≡ true
shown_inner whole byte =
    either (nat_lt byte 128) _ _ (escaped_inner byte) (λ is. either whole (byte ∷ []) (63 ∷ []) (beyond byte is) (λ no. refl))

all_inner : (whole : Bool) (text : List ℕ) → are_inner (flat_map (shown_byte whole) text) ≡ true
all_inner whole [] = refl
all_inner whole (byte ∷ more) =
    list_all-append is_inner (shown_byte whole byte) (flat_map (shown_byte whole) more)
    ∙ rw (shown_inner whole byte, all_inner whole more) refl

pub texts_stay_inside : TextsStayInside
unfolding escaped
texts_stay_inside text = all_inner (is_held text) text
