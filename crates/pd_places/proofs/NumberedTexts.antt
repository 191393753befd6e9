-- What is told of the elements of a list, an element at a time.
use Rattle.std.proofs.Common.{◌≡◌, ℕ, ◌+◌, List, [], ◌∷◌, ◌++◌, refl, sym, ap, ◌∙◌, append_assoc, ◌<◌, length, drop, get_or}
use Rattle.std.proofs.lemmas.List.{append-nil, at_drop_more}
use Rattle.pd_places.specs.FirstLines.{added}
use Rattle.pd_places.specs.Numbered.{numbered}
use Rattle.pd_places.proofs.FirstLines.{added_append, added_none}

numbered_first : {X : Type 0} (part : ℕ → X → List ℕ) (number : ℕ) (x : X) (xs : List X)
    → numbered part number (x ∷ xs) ≡ part number x ++ numbered part (number + 1) xs
unfolding numbered
numbered_first part number x xs = refl

numbered_none : {X : Type 0} (part : ℕ → X → List ℕ) (number : ℕ) → numbered part number [] ≡ []
unfolding numbered
numbered_none part number = refl

-- one more is told
pub more_numbered : {X : Type 0} (whole text text' : List ℕ) (part : ℕ → X → List ℕ) (number : ℕ) (x : X) (xs : List X)
    → whole ≡ text ++ numbered part number (x ∷ xs) → text' ≡ text ++ part number x → whole ≡ text' ++ numbered part (number + 1) xs
more_numbered whole text text' part number x xs so_far said =
    so_far ∙ ap (λ s. text ++ s) (numbered_first part number x xs)
    ∙ sym (append_assoc text (part number x) (numbered part (number + 1) xs))
    ∙ ap (λ t. t ++ numbered part (number + 1) xs) (sym said)

-- none is left
pub all_numbered : {X : Type 0} (whole text : List ℕ) (part : ℕ → X → List ℕ) (number : ℕ)
    → whole ≡ text ++ numbered part number [] → text ≡ whole
all_numbered whole text part number so_far = sym (so_far ∙ ap (λ s. text ++ s) (numbered_none part number) ∙ append-nil text)

-- the next of the elements that are left
pub next_left : {X Y : Type 0} (of : List X → Y) (xs : List X) (i : ℕ) (x : X) → i < length xs → x ≡ get_or xs i x
    → of (drop i xs) ≡ of (x ∷ drop (i + 1) xs)
next_left of xs i x within is = at_drop_more of xs i x within ∙ ap (λ y. of (y ∷ drop (i + 1) xs)) (sym is)

-- the same where the first lines alone are kept
pub more_added : {X : Type 0} (whole text text' : List ℕ) (part : ℕ → X → List ℕ) (number : ℕ) (x : X) (xs : List X)
    → whole ≡ added text (numbered part number (x ∷ xs)) → text' ≡ added text (part number x)
    → whole ≡ added text' (numbered part (number + 1) xs)
more_added whole text text' part number x xs so_far said =
    so_far ∙ ap (added text) (numbered_first part number x xs) ∙ added_append text (part number x) (numbered part (number + 1) xs)
    ∙ ap (λ t. added t (numbered part (number + 1) xs)) (sym said)

pub all_added : {X : Type 0} (whole text : List ℕ) (part : ℕ → X → List ℕ) (number : ℕ) → whole ≡ added text (numbered part number [])
    → text ≡ whole
all_added whole text part number so_far = sym (so_far ∙ ap (added text) (numbered_none part number) ∙ added_none text)
