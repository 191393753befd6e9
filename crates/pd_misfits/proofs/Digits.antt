-- The digits behind a point, one after the other.
use Rattle.std.proofs.Common.{◌≡◌, ◌≢◌, ℕ, zero, suc, ◌+◌, ◌-◌, ◌*◌, ◌/◌, ◌%◌, ◌<◌, ◌≤◌, List, [], ◌∷◌, ◌++◌, refl, sym, ap, ◌∙◌}
use Rattle.std.proofs.Common.{append_assoc, arith}
use Rattle.std.proofs.lemmas.Bool.{ne_eqb}
use Rattle.std.proofs.lemmas.List.{append-nil}
use Rattle.pd_misfits.specs.Fractions.{digits_behind}

digits_next : (places rest : ℕ) → rest ≢ 0 → digits_behind (suc places) rest
    ≡ (48 + rest / 100000) ∷ digits_behind places (rest % 100000 * 10)
unfolding digits_behind
digits_next places rest some = rw (ne_eqb rest 0 some) refl

-- one more digit
pub more_digits : (text whole : List ℕ) (digit rest count : ℕ) → count < 6 → rest ≢ 0 → digit ≡ 48 + rest / 100000
    → text ++ digits_behind (6 - count) rest ≡ whole
    → (text ++ digit ∷ []) ++ digits_behind (6 - (count + 1)) (rest % 100000 * 10) ≡ whole
more_digits text whole digit rest count below some is so_far =
    let one_less : suc (6 - (count + 1)) ≡ 6 - count = omega arith in
    append_assoc text (digit ∷ []) (digits_behind (6 - (count + 1)) (rest % 100000 * 10))
    ∙ ap (λ d. text ++ (d ∷ digits_behind (6 - (count + 1)) (rest % 100000 * 10))) is
    ∙ ap (λ t. text ++ t) (sym (digits_next (6 - (count + 1)) rest some))
    ∙ ap (λ k. text ++ digits_behind k rest) one_less ∙ so_far

-- a nought has none
none_behind : (places : ℕ) → digits_behind places 0 ≡ []
unfolding digits_behind
none_behind zero = refl
none_behind (suc places) = refl

pub no_digits : (text whole : List ℕ) (rest count : ℕ) → rest ≡ 0 → text ++ digits_behind (6 - count) rest ≡ whole → text ≡ whole
no_digits text whole rest count none so_far =
    sym (append-nil text) ∙ ap (λ t. text ++ t) (sym (none_behind (6 - count)))
    ∙ ap (λ v. text ++ digits_behind (6 - count) v) (sym none) ∙ so_far

no_places : (rest : ℕ) → digits_behind 0 rest ≡ []
unfolding digits_behind
no_places rest = refl

-- nor is there a place any more
pub all_digits : (text whole : List ℕ) (rest count : ℕ) → 6 ≤ count → text ++ digits_behind (6 - count) rest ≡ whole → text ≡ whole
all_digits text whole rest count all so_far =
    let none : 0 ≡ 6 - count = omega arith in
    sym (append-nil text) ∙ ap (λ t. text ++ t) (sym (no_places rest)) ∙ ap (λ k. text ++ digits_behind k rest) none ∙ so_far
