-- Where `split_once` parts a word at a sign, as the definitions of limits and shares part it.
use Rattle.std.proofs.Common.{arith, ◌≡◌, ◌+◌, ◌<◌, ◌∷◌, ◌∙◌, ℕ, List, [], ap, ap₂, cond, eqb, length, ltb, sym, take}
use Rattle.std.proofs.Common.{drop, length-drop, None, Some, false, true}
use Rattle.std.specs.List.{position_from, position_or_len, slice_split}
use Rattle.std.specs.Str.Pattern.{FindsChar}
use Rattle.std.proofs.lemmas.Bool.{le-ltb, lt-ltb}
use Rattle.std.proofs.lemmas.Iterator.Adapters.{position_from-zero}
use Rattle.std.proofs.lemmas.List.Elements.{All-from_get_or}
use Rattle.std.proofs.lemmas.List.Splits.{slice_split_first, slice_split_none}
use Rattle.std.proofs.lemmas.List.Sums.{fails_before_first}
use Rattle.std.proofs.lemmas.Str.Pattern.{IsSplitOnceResult, split_once_first}
use denote.Ref.{Bor}

-- ---- a word without the sign

pub no_sign : (c : ℕ) (bs : List ℕ) → FindsChar c bs None → c < 128 → position_from (λ b. eqb b c) 0 bs ≡ None
no_sign c bs none small =
    let all : position_or_len (λ b. eqb b c) bs ≡ length bs = split_once_first c bs None none small in
    let over : ltb (position_or_len (λ b. eqb b c) bs) (length bs) ≡ false = le-ltb _ _ (omega (arith, all)) in
    sym (position_from-zero (λ b. eqb b c) bs) ∙ ap (λ t. cond t (Some (position_or_len (λ b. eqb b c) bs)) None) over

pub one_part : (c : ℕ) (bs : List ℕ) → FindsChar c bs None → c < 128 → slice_split (λ b. eqb b c) bs ≡ bs ∷ []
one_part c bs none small =
    let all : position_or_len (λ b. eqb b c) bs ≡ length bs = split_once_first c bs None none small in
    slice_split_none (λ b. eqb b c) bs (All-from_get_or (λ b. eqb b c ≡ false) bs 0
    (λ i here. fails_before_first (λ b. eqb b c) bs i 0 (omega (arith, all, here))))

-- ---- a word with the sign, and what stands before its first one and behind

pub record Parts (c : ℕ) (bs front back : List ℕ) : Type 0 where
  pub place : ℕ
  pub here : position_from (λ b. eqb b c) 0 bs ≡ Some place
  pub front_is : front ≡ take place bs
  pub back_is : back ≡ drop (place + 1) bs
  pub shorter : length back < length bs
  pub pieces : slice_split (λ b. eqb b c) bs ≡ front ∷ slice_split (λ b. eqb b c) back

shorter_by : (bs back : List ℕ) (place : ℕ) → place < length bs → back ≡ drop (place + 1) bs → length back < length bs
shorter_by bs back place within is =
    let long : length back ≡ length (drop (place + 1) bs) = ap length is in omega (arith, long, length-drop (place + 1) bs)

pub at_sign : (c : ℕ) (bs : List ℕ) (x : Bor (List ℕ) × Bor (List ℕ)) → IsSplitOnceResult c bs (Some x) → c < 128
    → Parts c bs x.0.now x.1.now
at_sign c bs x cases small =
    let found = split_once_first c bs (Some x) cases small in
    let under : ltb (position_or_len (λ b. eqb b c) bs) (length bs) ≡ true = lt-ltb _ _ found.0 in
    record {
      place = position_or_len (λ b. eqb b c) bs;
      here = sym (position_from-zero (λ b. eqb b c) bs) ∙ ap (λ t. cond t (Some (position_or_len (λ b. eqb b c) bs)) None) under;
      front_is = found.1;
      back_is = found.2;
      shorter = shorter_by bs x.1.now _ found.0 found.2;
      pieces = slice_split_first (λ b. eqb b c) bs 0 found.0
          ∙ sym (ap₂ (λ front back. front ∷ slice_split (λ b. eqb b c) back) found.1 found.2);
    }
