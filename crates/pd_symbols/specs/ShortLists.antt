-- A short list in its places, of which there are this many at most.
use Rattle.std.specs.Prelude.{◌≡◌, ℕ, ◌-◌, ◌≤◌, List, ◌++◌, length, take, drop, replicate}
use Rattle.std.proofs.Common.{ap, sym, ◌∙◌, length-take-le, arith}
use Rattle.std.proofs.lemmas.List.{drop-replicate, take_at, length-append, length-drop, length-replicate}

-- as many items as are counted
pub counted : {X : Type 0} (most : ℕ) (items : List X) (n : ℕ) → n ≤ most → length items ≡ most → length (take n items) ≡ n
counted most items n few all = length-take-le n items (omega arith)

-- the items, and what fills each place that is left
pub refilled : {X : Type 0} (most : ℕ) (filler : X) (items : List X) (n : ℕ) → n ≤ most → length items ≡ most
    → items ≡ take n items ++ replicate (most - n) filler → take n items ++ replicate (most - length (take n items)) filler ≡ items
refilled most filler items n few all h = ap (λ k. take n items ++ replicate (most - k) filler) (counted most items n few all) ∙ sym h

-- items, with a filler in each place behind them
pub filled : {X : Type 0} (most : ℕ) (filler : X) (items : List X) (n : ℕ) → n ≤ most → length items ≡ n →
    let all : List X = items ++ drop n (replicate most filler) in
    (n ≤ most) × (length all ≡ most) × (all ≡ take n all ++ replicate (most - n) filler)
filled {X} most filler items n few count =
    let places : List X = replicate most filler in
    let rest : List X = drop n places in
    let sum = length-append items rest in
    let of_all : length places ≡ most = length-replicate most filler in
    let left : length rest ≡ length places - n = length-drop n places in
    let fill : rest ≡ replicate (most - n) filler = drop-replicate n most filler in
    let tail = ap (λ (l : List X). l ++ replicate (most - n) filler) (sym (take_at items rest n count)) in
    (few, omega (arith, of_all), ap (λ (l : List X). items ++ l) fill ∙ tail)
