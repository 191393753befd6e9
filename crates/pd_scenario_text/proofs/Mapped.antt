-- A list that is filled from the elements of another, one after the other.
use Rattle.std.proofs.Common.{◌≡◌, ℕ, ◌+◌, ◌<◌, List, [], ◌∷◌, ◌++◌, length, map, take, get_or, ap, sym, ◌∙◌}
use Rattle.std.proofs.lemmas.List.{take_more, map-append}

-- one more of them
pub mapped_more : {T V Y : Type 0} (view : T → V) (f : V → Y) (xs : List T) (i : ℕ) (x : T) (ys zs : List Y) (y : Y)
    → i < length xs → x ≡ get_or xs i x → y ≡ f (view x) → ys ≡ map f (map view (take i xs)) → zs ≡ ys ++ y ∷ []
    → zs ≡ map f (map view (take (i + 1) xs))
mapped_more view f xs i x ys zs y inside is made so_far pushed =
    let front = take i xs in
    let next : take (i + 1) xs ≡ front ++ x ∷ [] = take_more xs i x inside ∙ ap (λ x. front ++ x ∷ []) (sym is) in
    let more : map f (map view (take (i + 1) xs)) ≡ map f (map view front) ++ f (view x) ∷ [] =
    ap (λ xs. map f (map view xs)) next ∙ ap (map f) (map-append view front (x ∷ [])) ∙ map-append f (map view front) (view x ∷ []) in
    pushed ∙ ap (λ ys. ys ++ y ∷ []) so_far ∙ ap (λ y. map f (map view front) ++ y ∷ []) made ∙ sym more
