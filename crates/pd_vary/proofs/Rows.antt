-- The rows of sets are all combinations of their values.
use Rattle.std.proofs.Common.{◌≡◌, ℕ, zero, suc, ◌+◌, ◌-◌, ◌*◌, ◌%◌, ◌<◌, List, [], ◌∷◌, ◌++◌, map, sym, ap, ◌∙◌, arith, refl}
use Rattle.std.proofs.Common.{append_assoc}
use Rattle.std.proofs.Math.Nat.{mod-eq-sub-div-mul}
use Rattle.std.specs.List.{flat_map, range_with_len}
use Rattle.std.proofs.lemmas.List.{append-nil}
use Rattle.std.proofs.lemmas.List.Concat.{flat_map-append}
use Rattle.std.proofs.lemmas.List.FromFn.{map-range_with_len_more}
use Rattle.std.proofs.lemmas.Nat.{div-mul-add}
use Rattle.pd_vary.specs.Sets.{SetData, combinations, count_of, rows_of, value_at, values_at}

-- ---- numbers

mod-mul-add : (a w b : ℕ) → b < w → (a * w + b) % w ≡ b
mod-mul-add a w b h =
    mod-eq-sub-div-mul (a * w + b) w ∙ ap (λ q. (a * w + b) - q * w) (div-mul-add a w b h)
    ∙ (let e : (a * w + b) - a * w ≡ b = omega arith in e)

-- ---- ranges

module _ {A : Type 0} where
  map_joined : (f : ℕ → A) (a m n : ℕ) → map f (range_with_len a (m + n)) ≡ map f (range_with_len a m) ++ map f (range_with_len (a + m) n)
  map_joined f a m zero =
      ap (λ k. map f (range_with_len a k)) (let e : m + 0 ≡ m = omega arith in e) ∙ sym (append-nil (map f (range_with_len a m)))
  map_joined f a m (suc n) =
      let next : (a + m) + n ≡ a + (m + n) = omega arith in
      let size : m + suc n ≡ (m + n) + 1 = omega arith in
      let up : n + 1 ≡ suc n = omega arith in
      ap (λ k. map f (range_with_len a k)) size
      ∙ map-range_with_len_more f a (m + n) (a + (m + n)) refl
      ∙ ap (λ l. l ++ f (a + (m + n)) ∷ []) (map_joined f a m n)
      ∙ append_assoc (map f (range_with_len a m)) (map f (range_with_len (a + m) n)) (f (a + (m + n)) ∷ [])
      ∙ ap (λ l. map f (range_with_len a m) ++ l) (sym (map-range_with_len_more f (a + m) n (a + (m + n)) next))
      ∙ ap (λ k. map f (range_with_len a m) ++ map f (range_with_len (a + m) k)) up

  map_moved : (f g : ℕ → A) (a n : ℕ) → ((i : ℕ) → i < n → f (a + i) ≡ g i) → map f (range_with_len a n) ≡ map g (range_with_len 0 n)
  map_moved f g a zero h = refl
  map_moved f g a (suc n) h =
      let up : suc n ≡ n + 1 = omega arith in
      ap (λ k. map f (range_with_len a k)) up
      ∙ map-range_with_len_more f a n (a + n) refl
      ∙ ap (λ x. map f (range_with_len a n) ++ x ∷ []) (h n (omega arith))
      ∙ ap (λ l. l ++ g n ∷ []) (map_moved f g a n (λ i below. h i (omega arith)))
      ∙ sym (map-range_with_len_more g 0 n n (let e : 0 + n ≡ n = omega arith in e))
      ∙ ap (λ k. map g (range_with_len 0 k)) (sym up)

  map_twice : {B C : Type 0} (f : B → C) (g : A → B) (xs : List A) → map f (map g xs) ≡ map (λ x. f (g x)) xs
  map_twice f g [] = refl
  map_twice f g (x ∷ xs) = ap (λ l. f (g x) ∷ l) (map_twice f g xs)

-- ---- rows

module _ (s : SetData) (more : List SetData)
    (others : map (values_at more) (range_with_len 0 (rows_of more)) ≡ combinations more) where
  here : (k i : ℕ) → i < rows_of more → values_at (s ∷ more) (k * rows_of more + i) ≡ value_at s.values k ∷ values_at more i
  unfolding values_at
  here k i below =
      ap (λ q. value_at s.values q ∷ values_at more ((k * rows_of more + i) % rows_of more)) (div-mul-add k (rows_of more) i below)
      ∙ ap (λ q. value_at s.values k ∷ values_at more q) (mod-mul-add k (rows_of more) i below)

  so_far : (k : ℕ) → map (values_at (s ∷ more)) (range_with_len 0 (k * rows_of more))
      ≡ flat_map (λ value. map (λ vs. value ∷ vs) (combinations more)) (map (value_at s.values) (range_with_len 0 k))
  so_far zero = ap (λ n. map (values_at (s ∷ more)) (range_with_len 0 n)) (let e : 0 * rows_of more ≡ 0 = grind arith in e)
  so_far (suc k) =
      let f : ℕ → List (List ℕ) = values_at (s ∷ more) in
      let value = value_at s.values k in
      let h : List ℕ → List (List (List ℕ)) = λ v. map (λ vs. v ∷ vs) (combinations more) in
      let n = rows_of more in
      let size : suc k * n ≡ k * n + n = grind arith in
      let start : 0 + k * n ≡ k * n = omega arith in
      let first : map f (range_with_len 0 (k * n)) ≡ flat_map h (map (value_at s.values) (range_with_len 0 k)) = so_far k in
      let last : map f (range_with_len (0 + k * n) n) ≡ h value =
      ap (λ a. map f (range_with_len a n)) start
      ∙ map_moved f (λ i. value ∷ values_at more i) (k * n) n (here k)
      ∙ sym (map_twice (λ vs. value ∷ vs) (values_at more) (range_with_len 0 n))
      ∙ ap (λ l. map (λ vs. value ∷ vs) l) others in
      let all : map (value_at s.values) (range_with_len 0 (k + 1)) ≡ map (value_at s.values) (range_with_len 0 k) ++ value ∷ [] =
      map-range_with_len_more (value_at s.values) 0 k k (let e : 0 + k ≡ k = omega arith in e) in
      ap (λ c. map f (range_with_len 0 c)) size
      ∙ map_joined f 0 (k * n) n
      ∙ ap (λ l. l ++ map f (range_with_len (0 + k * n) n)) first
      ∙ ap (λ l. flat_map h (map (value_at s.values) (range_with_len 0 k)) ++ l) (last ∙ sym (append-nil (h value)))
      ∙ sym (flat_map-append h (map (value_at s.values) (range_with_len 0 k)) (value ∷ []))
      ∙ ap (flat_map h) (sym all)
      ∙ ap (λ c. flat_map h (map (value_at s.values) (range_with_len 0 c))) (let e : k + 1 ≡ suc k = omega arith in e)

pub rows_combine : (sets : List SetData) → map (values_at sets) (range_with_len 0 (rows_of sets)) ≡ combinations sets
unfolding rows_of values_at combinations
rows_combine [] = refl
rows_combine (s ∷ more) = so_far s more (rows_combine more) (count_of s.values)
