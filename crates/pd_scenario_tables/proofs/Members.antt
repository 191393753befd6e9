-- The elements of an array and the keys of a table, where the code has a `Vec` and a map.
use Rattle.std.proofs.Common.{◌≡◌, ℕ, zero, suc, Bool, true, false, ◌||◌, ◌&&◌, length, List, [], ◌∷◌, Option, Some, None, string_bytes}
use Rattle.std.proofs.Common.{map, pos, refl, arith, ap, ◌∙◌, ◌++◌, ◌+◌, ◌<◌, ◌≤◌, take, get_or}
use Rattle.std.specs.List.{list_any, list_all, filter_map, cons_option}
use Rattle.std.specs.Option.{option_to_list}
use Rattle.std.proofs.lemmas.Bool.{and_parts}
use Rattle.std.proofs.lemmas.List.{take_more, length-map, length-take}
use Rattle.std.proofs.lemmas.List.Elements.{filter_map-append}
use Rattle.std.specs.Map.{keys_of as map_keys}
use Rattle.toml.specs.Data.{Data, array}
use Rattle.toml.specs.View.{view, items_view, members_view}
use Rattle.toml.specs.declared.value.Value.{Value}
use Rattle.toml.proofs.Views.{Entry}
use Rattle.pd_scenario_tables.specs.Values.{elements, is_pair, pair_of, are_rising, supply_of}
use Rattle.pd_scenario_tables.specs.Tables.{keys_of}

pub list_all-elements : (p : Data → Bool) (vs : List Value) → list_all p (elements (items_view vs)) ≡ list_all (λ v. p (view v)) vs
list_all-elements p [] = refl
list_all-elements p (v ∷ vs) = ap (λ b. p (view v) && b) (list_all-elements p vs)

pub elements-items_view : (vs : List Value) → elements (items_view vs) ≡ map view vs
elements-items_view [] = refl
elements-items_view (v ∷ vs) = ap (λ ds. view v ∷ ds) (elements-items_view vs)

pub filter_map-map : {B : Type 0} (f : Data → Option B) (vs : List Value) → filter_map f (map view vs) ≡ filter_map (λ v. f (view v)) vs
filter_map-map f [] = refl
filter_map-map f (v ∷ vs) = rw (filter_map-map f vs)

pub list_any-keys : (p : List ℕ → Bool) (es : List Entry) → list_any p (keys_of (members_view es)) ≡ list_any (λ k. p (string_bytes k))
    (map_keys es)
list_any-keys p [] = refl
list_any-keys p (e ∷ es) = ap (λ b. p (string_bytes e.0) || b) (list_any-keys p es)

pub is_pair-items : (vs : List Value) → (length vs ≡ 2 → ⊥) → is_pair (array (items_view vs)) ≡ false
is_pair-items [] h = refl
is_pair-items (a ∷ []) h = refl
is_pair-items (a ∷ b ∷ []) h = absurd (h refl)
is_pair-items (a ∷ b ∷ c ∷ vs) h = refl

pub pair_of-items : (vs : List Value) → (length vs ≡ 2 → ⊥) → pair_of (array (items_view vs)) ≡ (pos 0, pos 0)
pair_of-items [] h = refl
pair_of-items (a ∷ []) h = refl
pair_of-items (a ∷ b ∷ []) h = absurd (h refl)
pair_of-items (a ∷ b ∷ c ∷ vs) h = refl

one : {B : Type 0} (o : Option B) → cons_option o [] ≡ option_to_list o
one None = refl
one (Some y) = refl

-- one more element
pub filter_map-more : {X B : Type 0} (f : X → Option B) (xs : List X) (i : ℕ) (d : X) → i < length xs
    → filter_map f (take (i + 1) xs) ≡ filter_map f (take i xs) ++ option_to_list (f (get_or xs i d))
filter_map-more f xs i d h =
    ap (filter_map f) (take_more xs i d h) ∙ filter_map-append f (take i xs) (get_or xs i d ∷ []) ∙ ap (λ t. filter_map f (take i xs) ++ t)
    (one (f (get_or xs i d)))

pub list_any-map : {A B : Type 0} (p : B → Bool) (f : A → B) (xs : List A) → list_any p (map f xs) ≡ list_any (λ x. p (f x)) xs
list_any-map p f [] = refl
list_any-map p f (x ∷ xs) = ap (λ b. p (f x) || b) (list_any-map p f xs)

pub list_all-map : {A B : Type 0} (p : B → Bool) (f : A → B) (xs : List A) → list_all p (map f xs) ≡ list_all (λ x. p (f x)) xs
list_all-map p f [] = refl
list_all-map p f (x ∷ xs) = ap (λ b. p (f x) && b) (list_all-map p f xs)

pub map-twice : {A B C : Type 0} (f : B → C) (g : A → B) (xs : List A) → map f (map g xs) ≡ map (λ x. f (g x)) xs
map-twice f g [] = refl
map-twice f g (x ∷ xs) = ap (λ ys. f (g x) ∷ ys) (map-twice f g xs)

pub are_rising-short : (vs : List Value) → length vs < 2 → are_rising (map (λ v. supply_of (view v)) vs) ≡ true
are_rising-short [] h = refl
are_rising-short (v ∷ []) h = refl
are_rising-short (v ∷ w ∷ vs) h = absurd (omega arith)

-- what all elements pass, the one at a place passes
pub all_at : {A B : Type 0} (p : B → Bool) (g : A → B) (xs : List A) (i : ℕ) (d : A) → i < length xs → list_all p (map g xs) ≡ true
    → p (g (get_or xs i d)) ≡ true
all_at p g [] i d below h = absurd (omega arith)
all_at p g (x ∷ xs) zero d below h = (and_parts (p (g x)) (list_all p (map g xs)) h).0
all_at p g (x ∷ xs) (suc i) d below h = all_at p g xs i d (omega arith) ((and_parts (p (g x)) (list_all p (map g xs)) h).1)

-- the elements before one of at most seven are fewer than seven
pub room : (vs : List Value) (ds : List Data) (i : ℕ) → map view vs ≡ ds → length (map supply_of ds) ≤ 7 → i < length vs
    → length (map supply_of (map view (take i vs))) < 7
room vs ds i is few below =
    omega (
      arith,
      length-map (map view (take i vs)) supply_of,
      length-map (take i vs) view,
      length-take i vs,
      length-map ds supply_of,
      length-map vs view,
      ap length is,
      few,
      below,
    )
