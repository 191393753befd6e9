-- Facts on a show that is written entry by entry.
use Rattle.std.proofs.Common.{◌≡◌, ℕ, ◌+◌, ◌<◌, ◌≤◌, List, [], ◌∷◌, ◌++◌, length, take, drop, get_or, Option, refl, sym, ap, ◌∙◌}
use Rattle.std.proofs.Common.{append_assoc}
use Rattle.std.specs.Prelude.{MatchOption, slice_get, Some, None}
use Rattle.std.specs.List.{flat_map}
use Rattle.std.proofs.lemmas.List.{append-nil, take-append-drop, drop_more, take_more, take_all}
use Rattle.std.proofs.lemmas.List.Concat.{flat_map-append}
use Rattle.std.proofs.lemmas.Option.{get_or_from_slice_get, slice_get-get_or, slice_get_within}
use Rattle.std.specs.Io.KnownBytes.{Appends}
use Rattle.std.proofs.KnownBytes.{Appends-trans}
use Rattle.pd_device.specs.Device.{WrotePart}
use Rattle.pd_device.specs.declared.fault.BenchFault.{BenchFault}
use Rattle.pd_device.specs.declared.fault.BenchFault.TheVariants.{WriteFailed}
use Rattle.pd_device.proofs.DeviceLemmas.{WrotePart-after, WrotePart-longer}

-- what was written is a head and then what each of the first i elements adds
pub record Walked {X : Type 0} (f : X → List ℕ) (head : List ℕ) (xs : List X) (i : ℕ) (old new : Option (List ℕ)) : Type 0 where
  pub appends : Appends old new (head ++ flat_map f (take i xs))

module _ {X : Type 0} (f : X → List ℕ) (head : List ℕ) (xs : List X) where
  pub Walked-start : (a b : Option (List ℕ)) → Appends a b head → Walked f head xs 0 a b
  Walked-start a b h = record { appends = rw (append-nil head) h }

  split_at : (i : ℕ) (x : X) → slice_get xs i ≡ Some x → xs ≡ take i xs ++ x ∷ drop (i + 1) xs
  split_at i x e =
      let within : i < length xs = slice_get_within xs i x e in
      sym (take-append-drop i xs)
      ∙ ap (λ v. take i xs ++ v) (drop_more xs i x within ∙ ap (λ y. y ∷ drop (i + 1) xs) (get_or_from_slice_get xs i x x e))

  text_at : (i : ℕ) (x : X) → slice_get xs i ≡ Some x → flat_map f xs ≡ flat_map f (take i xs) ++ (f x ++ flat_map f (drop (i + 1) xs))
  text_at i x e = ap (flat_map f) (split_at i x e) ∙ flat_map-append f (take i xs) (x ∷ drop (i + 1) xs)

  pub text_more : (i : ℕ) (x : X) → slice_get xs i ≡ Some x → flat_map f (take (i + 1) xs) ≡ flat_map f (take i xs) ++ f x
  text_more i x e =
      let within : i < length xs = slice_get_within xs i x e in
      ap (flat_map f) (take_more xs i x within ∙ ap (λ y. take i xs ++ y ∷ []) (get_or_from_slice_get xs i x x e))
      ∙ flat_map-append f (take i xs) (x ∷ []) ∙ ap (λ v. flat_map f (take i xs) ++ v) (append-nil (f x))

  pub Walked-more : (i : ℕ) (a b c : Option (List ℕ)) (t : List ℕ) → Walked f head xs i a b →
      MatchOption (slice_get xs i) ⊥ (λ x. t ≡ f x) → Appends b c t → Walked f head xs (i + 1) a c
  Walked-more i a b c t w h more = by_case (slice_get xs i) refl h
    where
      by_case : (o : Option X) → slice_get xs i ≡ o → MatchOption o ⊥ (λ x. t ≡ f x) → Walked f head xs (i + 1) a c
      by_case None e k = absurd k
      by_case (Some x) e k = record {
        appends =
            rw (text_more i x e, sym (append_assoc head (flat_map f (take i xs)) (f x)), sym k)
            (Appends-trans a b c (head ++ flat_map f (take i xs)) t w.appends more);
      }

  pub Walked-part : (i : ℕ) (a b c : Option (List ℕ)) (t : List ℕ) → Walked f head xs i a b →
      MatchOption (slice_get xs i) ⊥ (λ x. t ≡ f x) → WrotePart b c t → WrotePart a c (head ++ flat_map f xs)
  Walked-part i a b c t w h part = by_case (slice_get xs i) refl h
    where
      by_case : (o : Option X) → slice_get xs i ≡ o → MatchOption o ⊥ (λ x. t ≡ f x) → WrotePart a c (head ++ flat_map f xs)
      by_case None e k = absurd k
      by_case (Some x) e k =
          let all : head ++ flat_map f xs ≡ (head ++ flat_map f (take i xs)) ++ (t ++ flat_map f (drop (i + 1) xs)) =
          ap (λ v. head ++ v) (text_at i x e ∙ ap (λ v. flat_map f (take i xs) ++ (v ++ flat_map f (drop (i + 1) xs))) (sym k))
          ∙ sym (append_assoc head (flat_map f (take i xs)) (t ++ flat_map f (drop (i + 1) xs))) in
          rw all (WrotePart-after a b c (head ++ flat_map f (take i xs)) (t ++ flat_map f (drop (i + 1) xs)) w.appends
          (WrotePart-longer b c t (flat_map f (drop (i + 1) xs)) part))

  -- the text of the element at an index
  pub Walked-at : (i : ℕ) (d : X) (t : List ℕ) → i < length xs → t ≡ f (get_or xs i d) → MatchOption (slice_get xs i) ⊥ (λ x. t ≡ f x)
  Walked-at i d t h e = rw (slice_get-get_or xs i d h) e

  -- one more element, where what is said of a write is said of the element there
  pub Walked-wrote : (i : ℕ) (a b c : Option (List ℕ)) → Walked f head xs i a b → MatchOption (slice_get xs i) ⊥ (λ x. Appends b c (f x)) →
      Walked f head xs (i + 1) a c
  Walked-wrote i a b c w h = by_case (slice_get xs i) refl h
    where
      by_case : (o : Option X) → slice_get xs i ≡ o → MatchOption o ⊥ (λ x. Appends b c (f x)) → Walked f head xs (i + 1) a c
      by_case None e k = absurd k
      by_case (Some x) e k = Walked-more i a b c (f x) w (rw e refl) k

  -- the same of a write that failed
  pub Walked-cut : (i : ℕ) (a b c : Option (List ℕ)) (fault : BenchFault) → Walked f head xs i a b →
      MatchOption (slice_get xs i) ⊥ (λ x. (fault ≡ WriteFailed) × WrotePart b c (f x)) → (fault ≡ WriteFailed)
      × WrotePart a c (head ++ flat_map f xs)
  Walked-cut i a b c fault w h = by_case (slice_get xs i) refl h
    where
      by_case : (o : Option X) → slice_get xs i ≡ o → MatchOption o ⊥ (λ x. (fault ≡ WriteFailed) × WrotePart b c (f x)) →
          (fault ≡ WriteFailed) × WrotePart a c (head ++ flat_map f xs)
      by_case None e k = absurd k
      by_case (Some x) e k = (k.0, Walked-part i a b c (f x) w (rw e refl) k.1)

  -- a page with what some more elements add
  pub Walked-page : (i n : ℕ) (a b c : Option (List ℕ)) (t : List ℕ) → Walked f head xs i a b
      → flat_map f (take n xs) ≡ flat_map f (take i xs) ++ t → Appends b c t → Walked f head xs n a c
  Walked-page i n a b c t w more page = record {
    appends =
        rw (more, sym (append_assoc head (flat_map f (take i xs)) t))
        (Appends-trans a b c (head ++ flat_map f (take i xs)) t w.appends page);
  }

  -- the same of a page whose write failed
  pub Walked-torn : (i n : ℕ) (a b c : Option (List ℕ)) (t : List ℕ) → Walked f head xs i a b
      → flat_map f (take n xs) ≡ flat_map f (take i xs) ++ t → WrotePart b c t → WrotePart a c (head ++ flat_map f xs)
  Walked-torn i n a b c t w more page =
      let rest : List ℕ = flat_map f (drop n xs) in
      let all : head ++ flat_map f xs ≡ (head ++ flat_map f (take i xs)) ++ (t ++ rest) =
      ap (λ v. head ++ v) (ap (flat_map f) (sym (take-append-drop n xs)) ∙ flat_map-append f (take n xs) (drop n xs)
      ∙ ap (λ v. v ++ rest) more ∙ append_assoc (flat_map f (take i xs)) t rest)
      ∙ sym (append_assoc head (flat_map f (take i xs)) (t ++ rest)) in
      rw all (WrotePart-after a b c (head ++ flat_map f (take i xs)) (t ++ rest) w.appends (WrotePart-longer b c t rest page))

  pub Walked-all : (i : ℕ) (a b : Option (List ℕ)) → Walked f head xs i a b → length xs ≤ i → Appends a b (head ++ flat_map f xs)
  Walked-all i a b w h = let e : take i xs ≡ xs = take_all i xs h in rw e at w.appends

module _ {X : Type 0} (f : X → List ℕ) (xs : List X) where
  -- a page with what one more element adds
  pub page_more : (i : ℕ) (before page new : List ℕ) → flat_map f (take i xs) ≡ before ++ page →
      MatchOption (slice_get xs i) ⊥ (λ x. new ≡ page ++ f x) → flat_map f (take (i + 1) xs) ≡ before ++ new
  page_more i before page new so h = by_case (slice_get xs i) refl h
    where
      by_case : (o : Option X) → slice_get xs i ≡ o → MatchOption o ⊥ (λ x. new ≡ page ++ f x)
          → flat_map f (take (i + 1) xs) ≡ before ++ new
      by_case None e k = absurd k
      by_case (Some x) e k =
          text_more f [] xs i x e ∙ ap (λ v. v ++ f x) so ∙ append_assoc before page (f x) ∙ ap (λ v. before ++ v) (sym k)

  -- the same, where the page was not empty, and what is added has a name
  pub lines_more : (i : ℕ) (old page new t : List ℕ) → page ≡ old ++ flat_map f (take i xs) →
      MatchOption (slice_get xs i) ⊥ (λ x. t ≡ f x) → new ≡ page ++ t → new ≡ old ++ flat_map f (take (i + 1) xs)
  lines_more i old page new t so h put = by_case (slice_get xs i) refl h
    where
      by_case : (o : Option X) → slice_get xs i ≡ o → MatchOption o ⊥ (λ x. t ≡ f x) → new ≡ old ++ flat_map f (take (i + 1) xs)
      by_case None e k = absurd k
      by_case (Some x) e k =
          put ∙ ap (λ v. v ++ t) so ∙ append_assoc old (flat_map f (take i xs)) t
          ∙ ap (λ v. old ++ v) (ap (λ v. flat_map f (take i xs) ++ v) k ∙ sym (text_more f [] xs i x e))
