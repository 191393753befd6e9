-- Two lists of numbers in order with the same numbers are the same list; what holds of each number holds of each of them in order.
use Rattle.std.proofs.Common.{◌≡◌, ℕ, zero, suc, ◌+◌, ◌-◌, ◌/◌, ◌<◌, ◌≤◌, Bool, true, false, cond, List, [], ◌∷◌, length, get_or}
use Rattle.std.proofs.Common.{refl, sym, ap, ◌∙◌, arith, subst}
use Rattle.std.specs.Prelude.{nat_le, slice_index, Contains}
use Rattle.std.specs.List.{AllByRecursion, sum_by}
use Rattle.std.specs.List.Sorted.{IsPermutation, IsNonDecreasing}
use Rattle.std.proofs.lemmas.Bool.Decides.{nat_tests}
use Rattle.std.proofs.lemmas.List.Elements.{Contains-get_or}
use Rattle.std.proofs.lemmas.List.Sums.{sum_by-cons}
use Rattle.std.proofs.lemmas.List.Sorted.{sum_by-IsPermutation}
use Rattle.pd_noise.specs.Ranks.{high_place, median_place, ordered, placed, spread_of}

-- each number is no greater than those behind it
abbrev pub Rising : List ℕ → Type 0
Rising [] = Unit {0}
Rising (x ∷ xs) = AllByRecursion (λ y. x ≤ y) xs × Rising xs

abbrev SameSums : List ℕ → List ℕ → Type 0
SameSums xs ys = (f : ℕ → ℕ) → sum_by f xs ≡ sum_by f ys

-- ---- by index

pub all_from : (P : ℕ → Type 0) (xs : List ℕ) → ((j : ℕ) → j < length xs → P (get_or xs j 0)) → AllByRecursion P xs
all_from P [] each = tt
all_from P (x ∷ xs) each = (each 0 (omega arith), all_from P xs (λ j here. each (suc j) (omega arith)))

pub at_place : (P : ℕ → Type 0) (xs : List ℕ) (j : ℕ) → AllByRecursion P xs → j < length xs → P (get_or xs j 0)
at_place P [] j all here = absurd (omega arith)
at_place P (x ∷ xs) zero all here = all.0
at_place P (x ∷ xs) (suc j) all here = at_place P xs j all.1 (omega arith)

pub rising_from : (xs : List ℕ) → ((i j : ℕ) → i ≤ j → j < length xs → get_or xs i 0 ≤ get_or xs j 0) → Rising xs
rising_from [] up = tt
rising_from (x ∷ xs) up = (
  all_from (λ y. x ≤ y) xs (λ j here. up 0 (suc j) (omega arith) (omega arith)),
  rising_from xs (λ i j before here. up (suc i) (suc j) (omega arith) (omega arith)),
)

pub rises : (xs : List ℕ) (i j : ℕ) → Rising xs → i ≤ j → j < length xs → get_or xs i 0 ≤ get_or xs j 0
rises [] i j up before here = absurd (omega arith)
rises (x ∷ xs) zero zero up before here = omega arith
rises (x ∷ xs) zero (suc j) up before here = at_place (λ y. x ≤ y) xs j up.0 (omega arith)
rises (x ∷ xs) (suc i) zero up before here = absurd (omega arith)
rises (x ∷ xs) (suc i) (suc j) up before here = rises xs i j up.1 (omega arith) (omega arith)

-- ---- one list

-- 1 of a number up to another
abbrev up_to : ℕ → ℕ → ℕ
up_to a z = cond (nat_le z a) 1 0

none_up_to : (a : ℕ) (ys : List ℕ) → AllByRecursion (λ y. a < y) ys → sum_by (up_to a) ys ≡ 0
none_up_to a [] all = refl
none_up_to a (y ∷ ys) all =
    let here : a < y = all.0 in
    let none : up_to a y ≡ 0 = grind (arith, nat_tests) in
    let rest = none_up_to a ys all.1 in
    omega (arith, sum_by-cons (up_to a) y ys, none, rest)

all_above : (a y : ℕ) (ys : List ℕ) → a < y → AllByRecursion (λ z. y ≤ z) ys → AllByRecursion (λ z. a < z) ys
all_above a y [] above all = tt
all_above a y (z ∷ zs) above all = (let b = all.0 in omega arith, all_above a y zs above all.1)

-- the first of the one isn't less than the first of the other
not_less : (x y : ℕ) (xs ys : List ℕ) → Rising (y ∷ ys) → SameSums (x ∷ xs) (y ∷ ys) → x < y → ⊥
not_less x y xs ys up same less =
    let none = none_up_to x (y ∷ ys) (less, all_above x y ys less up.0) in
    let one : up_to x x ≡ 1 = grind (arith, nat_tests) in
    let sum = sum_by-cons (up_to x) x xs in
    let both = same (up_to x) in
    omega arith

tail_sums : (x : ℕ) (xs ys : List ℕ) → SameSums (x ∷ xs) (x ∷ ys) → SameSums xs ys
tail_sums x xs ys same f = omega (arith, sum_by-cons f x xs, sum_by-cons f x ys, same f)

pub one_list : (xs ys : List ℕ) → Rising xs → Rising ys → SameSums xs ys → xs ≡ ys
one_list [] [] up down same = refl
one_list [] (y ∷ ys) up down same = absurd (let sum = sum_by-cons (λ _. 1) y ys in let both = same (λ _. 1) in omega arith)
one_list (x ∷ xs) [] up down same = absurd (let sum = sum_by-cons (λ _. 1) x xs in let both = same (λ _. 1) in omega arith)
one_list (x ∷ xs) (y ∷ ys) up down same =
    let first : x ≡ y =
    omega (arith, not_less x y xs ys down same, not_less y x ys xs up (λ f. sym (same f))) in
    let rest : SameSums (y ∷ xs) (y ∷ ys) = subst (λ z. SameSums (z ∷ xs) (y ∷ ys)) first same in
    ap (λ z. z ∷ xs) first ∙ ap (λ l. y ∷ l) (one_list xs ys up.1 down.1 (tail_sums y xs ys rest))

-- ---- in order

placed_if : (P : ℕ → Type 0) (b : Bool) (x y : ℕ) (ys : List ℕ) → P x → AllByRecursion P (y ∷ ys) → AllByRecursion P (placed x ys)
    → AllByRecursion P (cond b (x ∷ (y ∷ ys)) (y ∷ placed x ys))
placed_if P true x y ys one all rest = (one, all)
placed_if P false x y ys one all rest = (all.0, rest)

all_placed : (P : ℕ → Type 0) (x : ℕ) (ys : List ℕ) → P x → AllByRecursion P ys → AllByRecursion P (placed x ys)
all_placed P x [] one all = (one, tt)
all_placed P x (y ∷ ys) one all = placed_if P (nat_le x y) x y ys one all (all_placed P x ys one all.1)

pub all_ordered : (P : ℕ → Type 0) (xs : List ℕ) → AllByRecursion P xs → AllByRecursion P (ordered xs)
all_ordered P [] all = tt
all_ordered P (x ∷ xs) all = all_placed P x (ordered xs) all.0 (all_ordered P xs all.1)

all_weaker : (a b : ℕ) (xs : List ℕ) → a ≤ b → AllByRecursion (λ y. b ≤ y) xs → AllByRecursion (λ y. a ≤ y) xs
all_weaker a b [] le all = tt
all_weaker a b (x ∷ xs) le all = (let h = all.0 in omega arith, all_weaker a b xs le all.1)

rising_if : (b : Bool) (x y : ℕ) (ys : List ℕ) → nat_le x y ≡ b → Rising (y ∷ ys) → Rising (placed x ys)
    → Rising (cond b (x ∷ (y ∷ ys)) (y ∷ placed x ys))
rising_if true x y ys is up rest =
    let le : x ≤ y = grind (arith, nat_tests) in
    ((le, all_weaker x y ys le up.0), up)
rising_if false x y ys is up rest =
    let le : y ≤ x = grind (arith, nat_tests) in
    (all_placed (λ z. y ≤ z) x ys le up.0, rest)

rising_placed : (x : ℕ) (ys : List ℕ) → Rising ys → Rising (placed x ys)
rising_placed x [] up = (tt, tt)
rising_placed x (y ∷ ys) up = rising_if (nat_le x y) x y ys refl up (rising_placed x ys up.1)

pub rising_ordered : (xs : List ℕ) → Rising (ordered xs)
rising_ordered [] = tt
rising_ordered (x ∷ xs) = rising_placed x (ordered xs) (rising_ordered xs)

sums_if : (f : ℕ → ℕ) (b : Bool) (x y : ℕ) (ys : List ℕ) → sum_by f (placed x ys) ≡ f x + sum_by f ys
    → sum_by f (cond b (x ∷ (y ∷ ys)) (y ∷ placed x ys)) ≡ f x + (f y + sum_by f ys)
sums_if f true x y ys rest = omega (arith, sum_by-cons f x (y ∷ ys), sum_by-cons f y ys)
sums_if f false x y ys rest = omega (arith, sum_by-cons f y (placed x ys), rest)

sums_placed : (f : ℕ → ℕ) (x : ℕ) (ys : List ℕ) → sum_by f (placed x ys) ≡ f x + sum_by f ys
sums_placed f x [] = sum_by-cons f x []
sums_placed f x (y ∷ ys) =
    sums_if f (nat_le x y) x y ys (sums_placed f x ys) ∙ ap (λ s. f x + s) (sym (sum_by-cons f y ys))

sums_ordered : (f : ℕ → ℕ) (xs : List ℕ) → sum_by f (ordered xs) ≡ sum_by f xs
sums_ordered f [] = refl
sums_ordered f (x ∷ xs) =
    sums_placed f x (ordered xs) ∙ ap (λ s. f x + s) (sums_ordered f xs) ∙ sym (sum_by-cons f x xs)

length_if : (b : Bool) (x y : ℕ) (ys : List ℕ) → length (placed x ys) ≡ length ys + 1
    → length (cond b (x ∷ (y ∷ ys)) (y ∷ placed x ys)) ≡ length (y ∷ ys) + 1
length_if true x y ys is = omega arith
length_if false x y ys is = omega arith

length_placed : (x : ℕ) (ys : List ℕ) → length (placed x ys) ≡ length ys + 1
length_placed x [] = refl
length_placed x (y ∷ ys) = length_if (nat_le x y) x y ys (length_placed x ys)

pub length_ordered : (xs : List ℕ) → length (ordered xs) ≡ length xs
length_ordered [] = refl
length_ordered (x ∷ xs) = let one = length_placed x (ordered xs) in let rest = length_ordered xs in omega arith

-- what a sort makes of numbers
pub is_ordered : (xs ys : List ℕ) → IsPermutation xs ys → IsNonDecreasing ys → ys ≡ ordered xs
is_ordered xs ys same up =
    one_list ys (ordered xs) (rising_from ys (λ i j. up i j 0)) (rising_ordered xs)
    (λ f. sum_by-IsPermutation f xs ys same ∙ sym (sums_ordered f xs))

-- the number at a place in order is one of them
pub is_one : (xs : List ℕ) (k : ℕ) → k < length xs → Contains xs (get_or (ordered xs) k 0)
is_one xs k here =
    at_place (Contains xs) (ordered xs) k
    (all_ordered (Contains xs) xs (all_from (Contains xs) xs (λ j inside. Contains-get_or xs j 0 inside)))
    (let count = length_ordered xs in omega arith)

pub in_order : (xs : List ℕ) (i j : ℕ) → i ≤ j → j < length xs → get_or (ordered xs) i 0 ≤ get_or (ordered xs) j 0
in_order xs i j before here = rises (ordered xs) i j (rising_ordered xs) before (let count = length_ordered xs in omega arith)

-- 95 % of some numbers, rounded up, are all but a twentieth, rounded down
high_is : (n : ℕ) → (n - 1) - n / 20 ≡ high_place n
high_is n = omega arith

pub is_spread : (xs : List ℕ) (count last least median high greatest : ℕ) → count ≡ length xs → last ≡ count - 1
    → least ≡ slice_index (ordered xs) 0 → median ≡ slice_index (ordered xs) (last / 2)
    → high ≡ slice_index (ordered xs) (last - count / 20) → greatest ≡ slice_index (ordered xs) last
    → spread_of xs ≡ record { least = least; median = median; high = high; greatest = greatest }
unfolding spread_of
is_spread xs count last least median high greatest count_is last_is a b c d =
    let last_place : last ≡ length xs - 1 = omega arith in
    let middle : last / 2 ≡ median_place (length xs) = ap (λ n. n / 2) last_place in
    let near : last - count / 20 ≡ high_place (length xs) = rw (last_is, count_is) (high_is (length xs)) in
    let median_is = b ∙ ap (slice_index (ordered xs)) middle in
    let high_there = c ∙ ap (slice_index (ordered xs)) near in
    let greatest_is = d ∙ ap (slice_index (ordered xs)) last_place in
    cc
