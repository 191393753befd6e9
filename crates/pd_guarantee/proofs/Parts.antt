-- Sums over the ports before one and after it.
use Rattle.std.proofs.Common.{◌≡◌, ℕ, zero, suc, ◌+◌, ◌<◌, ◌≤◌, List, [], ◌∷◌, length, sum, take, drop, slice_index, slice_set, refl, arith}
use Rattle.std.proofs.lemmas.List.Sums.{sum_by-cons}

pub sum-cons : (x : ℕ) (xs : List ℕ) → sum (x ∷ xs) ≡ x + sum xs
sum-cons x xs = sum_by-cons (λ n. n) x xs

-- no number of the one list is above the other's at its place
abbrev pub NoneAbove : List ℕ → List ℕ → Type 0
NoneAbove xs ys = (k : ℕ) → k < length xs → slice_index xs k ≤ slice_index ys k

tail_below : (x y : ℕ) (xs ys : List ℕ) → NoneAbove (x ∷ xs) (y ∷ ys) → NoneAbove xs ys
tail_below x y xs ys below k lt = below (suc k) (omega arith)

take_none : (xs : List ℕ) → sum (take 0 xs) ≡ 0
take_none [] = refl
take_none (x ∷ xs) = refl

-- so it is up to a place
abbrev pub NoneAboveUpTo : ℕ → List ℕ → List ℕ → Type 0
NoneAboveUpTo p xs ys = (k : ℕ) → k < p → k < length xs → slice_index xs k ≤ slice_index ys k

pub take-below : (p : ℕ) (xs ys : List ℕ) → length xs ≡ length ys → NoneAboveUpTo p xs ys → sum (take p xs) ≤ sum (take p ys)
take-below zero xs ys len below = omega (arith, take_none xs, take_none ys)
take-below (suc p) [] ys len below = omega arith
take-below (suc p) (x ∷ xs) [] len below = absurd (omega arith)
take-below (suc p) (x ∷ xs) (y ∷ ys) len below =
    let head : x ≤ y = below 0 (omega arith) (omega arith) in
    let rest = take-below p xs ys (omega arith) (λ k low lt. below (suc k) (omega arith) (omega arith)) in
    omega (arith, sum-cons x (take p xs), sum-cons y (take p ys))

pub drop-below : (p : ℕ) (xs ys : List ℕ) → length xs ≡ length ys → NoneAbove xs ys → sum (drop p xs) ≤ sum (drop p ys)
drop-below zero [] ys len below = omega arith
drop-below zero (x ∷ xs) [] len below = absurd (omega arith)
drop-below zero (x ∷ xs) (y ∷ ys) len below =
    let head : x ≤ y = below 0 (omega arith) in
    let rest : sum xs ≤ sum ys = drop-below zero xs ys (omega arith) (tail_below x y xs ys below) in
    let both : sum (x ∷ xs) ≤ sum (y ∷ ys) = omega (arith, sum-cons x xs, sum-cons y ys) in
    both
drop-below (suc p) [] ys len below = omega arith
drop-below (suc p) (x ∷ xs) [] len below = absurd (omega arith)
drop-below (suc p) (x ∷ xs) (y ∷ ys) len below = drop-below p xs ys (omega arith) (tail_below x y xs ys below)

-- all but one are those before it and those after it
pub others : (p : ℕ) (xs : List ℕ) → p < length xs → sum (slice_set xs p 0) ≡ sum (take p xs) + sum (drop (suc p) xs)
others p [] lt = absurd (omega arith)
others zero (x ∷ xs) lt =
    let all : sum (0 ∷ xs) ≡ 0 + sum xs = sum-cons 0 xs in
    let none = take_none (x ∷ xs) in
    omega arith
others (suc p) (x ∷ xs) lt =
    let rest = others p xs (omega arith) in
    omega (arith, sum-cons x (slice_set xs p 0), sum-cons x (take p xs))

-- the one with those after it
pub from_one : (p : ℕ) (xs : List ℕ) → p < length xs → sum (drop p xs) ≡ slice_index xs p + sum (drop (suc p) xs)
from_one p [] lt = absurd (omega arith)
from_one zero (x ∷ xs) lt = sum-cons x xs
from_one (suc p) (x ∷ xs) lt = from_one p xs (omega arith)

-- all are those before it and those from it on
pub before_and_from : (p : ℕ) (xs : List ℕ) → sum (take p xs) + sum (drop p xs) ≡ sum xs
before_and_from zero xs = omega (arith, take_none xs)
before_and_from (suc p) [] = refl
before_and_from (suc p) (x ∷ xs) =
    let rest = before_and_from p xs in
    omega (arith, sum-cons x (take p xs), sum-cons x xs)
