-- What `parse` reads is the number of a word.
use Rattle.std.proofs.Common.{◌≡◌, ◌&&◌, ◌^◌, ℕ, Bool, true, false, [], ◌∷◌, length, Result, Ok, Err, Some, None, nat_lt}
use Rattle.std.proofs.Common.{ap, lt-ltb, ltb-true, refl, sym, true≢false}
use Rattle.std.specs.Prelude.{if◌then◌else◌}
use Rattle.std.specs.Char.{digit_value}
use Rattle.std.specs.List.{list_all}
use Rattle.std.specs.Result.{result_ok}
use Rattle.std.specs.Str.Parse.{AllDigits, ParsesUnsigned, digits_value, without_leading_plus}
use Rattle.clap.specs.Words.{Text}
use Rattle.pd_words.specs.LabTasks.{is_number, number}

digits_pass : (ds : Text) → AllDigits 10 ds → list_all (λ d. nat_lt (digit_value d) 10) ds ≡ true
digits_pass [] h = refl
digits_pass (d ∷ ds) h = rw (lt-ltb (digit_value d) 10 h.0) (digits_pass ds h.1)

both : (a b : Bool) → (a && b) ≡ true → (a ≡ true) × (b ≡ true)
both true b e = (refl, e)
both false b e = absurd (true≢false (sym e))

digits_from : (ds : Text) → list_all (λ d. nat_lt (digit_value d) 10) ds ≡ true → AllDigits 10 ds
digits_from [] e = tt
digits_from (d ∷ ds) e =
    let parts = both _ _ e in
    (ltb-true _ _ parts.0, digits_from ds parts.1)

pub number_read : {E : Type 0} (text : Text) (r : Result ℕ E) → ParsesUnsigned 64 10 text r → result_ok r ≡ number text
number_read text (Ok n) h =
    let ds = without_leading_plus text in
    rw (lt-ltb 0 (length ds) h.0.0.0, digits_pass ds h.0.0.1, lt-ltb (digits_value 10 ds) (2 ^ 64) h.0.1) (ap (λ n. Some n) h.1)
number_read text (Err e) h = go (is_number text) refl
  where
    go : (b : Bool) → is_number text ≡ b → None ≡ number text
    go false t = rw t refl
    go true t =
        let outer = both _ _ t in
        let inner = both _ _ outer.0 in
        absurd (h ((ltb-true _ _ inner.0, digits_from (without_leading_plus text) inner.1), ltb-true _ _ outer.1))

-- ---- whether there is one

of_some : (b : Bool) (m n : ℕ) → Some n ≡ (if b then Some m else None) → true ≡ b
of_some true m n e = refl
of_some false m n e = absurd (cc)

of_none : (b : Bool) (m : ℕ) → None ≡ (if b then Some m else None) → false ≡ b
of_none true m e = absurd (cc)
of_none false m e = refl

pub there_is : (word : Text) (n : ℕ) → Some n ≡ number word → true ≡ is_number word
there_is word n e = of_some (is_number word) (digits_value 10 (without_leading_plus word)) n e

pub there_is_none : (word : Text) → None ≡ number word → false ≡ is_number word
there_is_none word e = of_none (is_number word) (digits_value 10 (without_leading_plus word)) e
