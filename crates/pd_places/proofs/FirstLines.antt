-- The first lines of a text are those of what is kept of it.
use Rattle.std.proofs.Common.{◌≡◌, ◌⊎◌, ℕ, ◌+◌, ◌-◌, ◌<◌, ◌≤◌, inl, inr, nat_lt, Bool, true, false, List, [], ◌∷◌, ◌++◌, length, take, refl}
use Rattle.std.proofs.Common.{sym, ap, ◌∙◌, subst, arith, append_assoc, slice_index}
use Rattle.std.specs.List.{flat_map}
use Rattle.std.proofs.lemmas.Bool.{cases_Bool, cases_lt}
use Rattle.std.proofs.lemmas.Bool.Decides.{nat_tests}
use Rattle.std.proofs.lemmas.List.{append-nil, length-append, take-append-le, get_or_append_left}
use Rattle.pd_text.specs.Fronts.{FrontData}
use Rattle.pd_places.specs.FirstLines.{added, is_full, line_count, most_places, with_byte}
use Rattle.pd_places.specs.Places.{IsCut, IsShort, more_text}

pub added_none : (text : List ℕ) → added text [] ≡ text
unfolding added
added_none text = refl

-- one byte more
added_first : (text : List ℕ) (x : ℕ) (xs : List ℕ) → added text (x ∷ xs) ≡ added (with_byte text x) xs
unfolding added
added_first text x xs = refl

pub more_bytes : (whole text text' : List ℕ) (x : ℕ) (xs : List ℕ) → whole ≡ added text (x ∷ xs) → text' ≡ with_byte text x
    → whole ≡ added text' xs
more_bytes whole text text' x xs so_far is = so_far ∙ added_first text x xs ∙ ap (λ t. added t xs) (sym is)

pub no_bytes : (whole text : List ℕ) → whole ≡ added text [] → text ≡ whole
no_bytes whole text so_far = sym (so_far ∙ added_none text)

-- one text behind another
pub added_append : (text xs ys : List ℕ) → added text (xs ++ ys) ≡ added (added text xs) ys
unfolding added
added_append text [] ys = refl
added_append text (x ∷ xs) ys = added_append (with_byte text x) xs ys

-- where there are more lines than are told, nothing more is kept
pub added_full : (text xs : List ℕ) → is_full text ≡ true → added text xs ≡ text
unfolding added
added_full text [] full = refl
added_full text (x ∷ xs) full = rw full (added_full text xs full)

pub full_bytes : (whole text rest : List ℕ) → whole ≡ added text rest → is_full text ≡ true → text ≡ whole
full_bytes whole text rest so_far full = sym (so_far ∙ added_full text rest full)

pub more_parts : {X : Type 0} (of : X → List ℕ) (whole text text' : List ℕ) (x : X) (xs : List X)
    → whole ≡ added text (flat_map of (x ∷ xs)) → text' ≡ added text (of x) → whole ≡ added text' (flat_map of xs)
more_parts of whole text text' x xs so_far is =
    so_far ∙ added_append text (of x) (flat_map of xs) ∙ ap (λ t. added t (flat_map of xs)) (sym is)

-- one part behind another
pub both_added : (text one two xs ys : List ℕ) → one ≡ added text xs → two ≡ added one ys → two ≡ added text (xs ++ ys)
both_added text one two xs ys first second = second ∙ ap (λ t. added t ys) first ∙ sym (added_append text xs ys)

-- what is kept is the beginning of the text: all of it, or more lines than are told
record Keeps (kept whole : List ℕ) : Type 0 where
  rest : List ℕ
  whole_is : whole ≡ kept ++ rest
  all_or_full : (rest ≡ []) ⊎ (is_full kept ≡ true)

same : (text : List ℕ) (x : ℕ) (xs : List ℕ) → is_full text ≡ false → added text (x ∷ xs) ≡ added (text ++ x ∷ []) xs
unfolding added
same text x xs more = rw more refl

one_more : (text : List ℕ) (x : ℕ) (xs : List ℕ) → is_full text ≡ false
    → Keeps (added (text ++ x ∷ []) xs) ((text ++ x ∷ []) ++ xs) → Keeps (added text (x ∷ xs)) (text ++ x ∷ xs)
one_more text x xs more k =
    let P : List ℕ → Type 0 = λ t. Keeps t (text ++ x ∷ xs) in
    subst P (sym (same text x xs more)) (record {
      rest = k.rest;
      whole_is = sym (append_assoc text (x ∷ []) xs) ∙ k.whole_is;
      all_or_full = k.all_or_full;
    })

keeps : (text xs : List ℕ) → Keeps (added text xs) (text ++ xs)
keeps text [] = record {
  rest = [];
  whole_is = ap (λ t. t ++ []) (sym (added_none text));
  all_or_full = inl refl;
}
keeps text (x ∷ xs) =
    elim (cases_Bool (is_full text)) [
      | inl full ↦ record {
        rest = x ∷ xs;
        whole_is = ap (λ t. t ++ x ∷ xs) (sym (added_full text (x ∷ xs) full));
        all_or_full = inr (ap is_full (added_full text (x ∷ xs) full) ∙ full);
      }
      | inr more ↦ one_more text x xs more (keeps (text ++ x ∷ []) xs)
    ]

-- a cut of what is kept is one of the whole
cut_too : (kept rest : List ℕ) (cut : ℕ) → cut < length kept → IsCut most_places kept cut → IsCut most_places (kept ++ rest) cut
cut_too kept rest cut less is =
    let some : cut ≤ length kept = omega arith in
    let same : take cut (kept ++ rest) ≡ take cut kept = take-append-le cut kept rest some in
    let long = length-append kept rest in
    let full = is.full less in
    let last : slice_index (kept ++ rest) (cut - 1) ≡ slice_index kept (cut - 1) =
    get_or_append_left kept rest 0 (cut - 1) (omega arith) in
    record {
      within = omega arith;
      few = subst (λ t. line_count t ≤ most_places) (sym same) is.few;
      full = λ _. (ap line_count same ∙ full.0, last ∙ full.1);
    }

whole_cut : (text : List ℕ) → take (length text) text ≡ text
whole_cut [] = refl
whole_cut (x ∷ xs) = ap (λ t. x ∷ t) (whole_cut xs)

below_full : (kept : List ℕ) (cut : ℕ) → is_full kept ≡ true → IsCut most_places kept cut → cut < length kept
below_full kept cut full is =
    elim (cases_lt cut (length kept)) [
      | inl less ↦ less
      | inr past ↦
          let within = is.within in
          let all : cut ≡ length kept = omega arith in
          let few : line_count kept ≤ 20 =
          subst (λ t. line_count t ≤ most_places) (ap (λ n. take n kept) all ∙ whole_cut kept) is.few in
          let many : 20 < line_count kept = grind (arith, nat_tests) in
          absurd (omega arith)
    ]

told_too : (kept rest : List ℕ) (file : FrontData) (cut : ℕ) → cut < length kept
    → take cut kept ++ more_text file (nat_lt cut (length kept))
    ≡ take cut (kept ++ rest) ++ more_text file (nat_lt cut (length (kept ++ rest)))
told_too kept rest file cut less =
    let long = length-append kept rest in
    let some : cut ≤ length kept = omega arith in
    let more : cut < length (kept ++ rest) = omega arith in
    ap (λ b. take cut kept ++ more_text file b) (is_less cut (length kept) less ∙ sym (is_less cut (length (kept ++ rest)) more))
    ∙ ap (λ t. t ++ more_text file (nat_lt cut (length (kept ++ rest)))) (sym (take-append-le cut kept rest some)) where
      is_less : (n m : ℕ) → n < m → nat_lt n m ≡ true
      is_less n m lt = grind (arith, nat_tests)

short_by : (kept whole : List ℕ) (file : FrontData) (said : List ℕ) (cut : ℕ) → IsCut most_places kept cut
    → said ≡ take cut kept ++ more_text file (nat_lt cut (length kept)) → Keeps kept whole → IsShort most_places file whole said
short_by kept whole file said cut is says k =
    elim k.all_or_full [
      | inl all ↦
          let same : kept ≡ whole = sym (k.whole_is ∙ ap (λ r. kept ++ r) all ∙ append-nil kept) in
          subst (λ t. IsShort most_places file t said) same (cut, is, says)
      | inr full ↦
          let less = below_full kept cut full is in
          let P : List ℕ → Type 0 = λ t. IsShort most_places file t said in
          subst P (sym k.whole_is) (cut, cut_too kept k.rest cut less is, says ∙ told_too kept k.rest file cut less)
    ]

-- so what is told of it is told of the whole
pub short_of_kept : (whole : List ℕ) (file : FrontData) (said : List ℕ) → IsShort most_places file (added [] whole) said
    → IsShort most_places file whole said
short_of_kept whole file said (cut, is, says) = short_by (added [] whole) whole file said cut is says (keeps [] whole)
