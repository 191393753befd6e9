-- One entry more, and what of the entries is nearest to a range of times.
use Rattle.std.proofs.Common.{◌≡◌, ℕ, ◌+◌, Bool, true, false, cond, List, [], ◌∷◌, ◌++◌, take, Option, Some, None, ap, sym, ◌∙◌, refl}
use Rattle.std.specs.Prelude.{MatchOption, filter, nat_lt, slice_get}
use Rattle.std.specs.List.{cons_option, last_or}
use Rattle.std.proofs.lemmas.List.{append-nil, take_more}
use Rattle.std.proofs.lemmas.List.Elements.{filter-append, filter_map-append}
use Rattle.std.proofs.lemmas.Option.{get_or_from_slice_get, slice_get_within}
use Rattle.pd_port.specs.declared.entry.Entry.{Entry}
use Rattle.pd_expect.specs.Details.{first_time, has_sign, near_of, nearest, sign_at, times_of}
use Rattle.pd_expect.specs.Near.{beside, near_after, or_first}
use Rattle.pd_expect.specs.OverTime.{Moves}
use Rattle.pd_expect.specs.declared.near.Near.{Near}
use Rattle.pd_expect.specs.declared.near.Sign.{Sign}

last_more : (o : Option ℕ) (times : List ℕ) (t : ℕ) → last_or o (times ++ t ∷ []) ≡ Some t
last_more o [] t = refl
last_more o (s ∷ times) t = last_more (Some s) times t

-- one time more at the end, where it is one that is looked for
at_end : (b : Bool) (times : List ℕ) (t : ℕ) → last_or None (times ++ cond b (t ∷ []) []) ≡ cond b (Some t) (last_or None times)
at_end true times t = last_more None times t
at_end false times t = ap (λ (l : List ℕ). last_or None l) (append-nil times)

at_front : (b : Bool) (times : List ℕ) (t : ℕ) →
    first_time (times ++ cond b (t ∷ []) []) ≡ cond b (or_first (first_time times) t) (first_time times)
at_front true [] t = refl
at_front true (s ∷ times) t = refl
at_front false times t = ap first_time (append-nil times)

module _ (from to : ℕ) where
  time_more : (times : List ℕ) (t : ℕ) → near_of from to (times ++ t ∷ []) ≡ beside from to t (near_of from to times)
  time_more times t =
      let before : last_or None (filter (λ s. nat_lt s from) (times ++ t ∷ []))
      ≡ cond (nat_lt t from) (Some t) (last_or None (filter (λ s. nat_lt s from) times)) =
      ap (λ (l : List ℕ). last_or None l) (filter-append (λ s. nat_lt s from) times (t ∷ []))
      ∙ at_end (nat_lt t from) (filter (λ s. nat_lt s from) times) t in
      let after : first_time (filter (λ s. nat_lt to s) (times ++ t ∷ []))
      ≡ cond (nat_lt to t) (or_first (first_time (filter (λ s. nat_lt to s) times)) t) (first_time (filter (λ s. nat_lt to s) times)) =
      ap first_time (filter-append (λ s. nat_lt to s) times (t ∷ []))
      ∙ at_front (nat_lt to t) (filter (λ s. nat_lt to s) times) t in
      λ i. record { before = before i; after = after i }

  sign_more : (s : Bool) (times : List ℕ) (t : ℕ) →
      near_of from to (times ++ cons_option (cond s (Some t) None) [])
      ≡ cond s (beside from to t (near_of from to times)) (near_of from to times)
  sign_more true times t = time_more times t
  sign_more false times t = ap (near_of from to) (append-nil times)

  entry_more : (what : Sign) (moves : Moves) (m : ℕ × Entry) →
      nearest what from to (moves ++ m ∷ []) ≡ near_after what from to (nearest what from to moves) m
  entry_more what moves m =
      ap (near_of from to) (filter_map-append (sign_at what) moves (m ∷ []))
      ∙ sign_more (has_sign what m) (times_of what moves) m.1.at

  pub near_seen : (what : Sign) (moves : Moves) (i : ℕ) (old new : Near) → old ≡ nearest what from to (take i moves) →
      MatchOption (slice_get moves i) ⊥ (λ m. new ≡ near_after what from to old m) → new ≡ nearest what from to (take (i + 1) moves)
  near_seen what moves i old new so h = by_case (slice_get moves i) refl h
    where
      by_case : (o : Option (ℕ × Entry)) → slice_get moves i ≡ o → MatchOption o ⊥ (λ m. new ≡ near_after what from to old m) →
          new ≡ nearest what from to (take (i + 1) moves)
      by_case None e k = absurd k
      by_case (Some m) e k =
          let taken : take (i + 1) moves ≡ take i moves ++ m ∷ [] =
          take_more moves i m (slice_get_within moves i m e) ∙ ap (λ y. take i moves ++ y ∷ []) (get_or_from_slice_get moves i m m e) in
          k ∙ ap (λ v. near_after what from to v m) so
          ∙ sym (ap (nearest what from to) taken ∙ entry_more what (take i moves) m)
