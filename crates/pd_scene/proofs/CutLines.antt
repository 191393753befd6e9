-- How lines are cut off the front of a text.
use Rattle.std.proofs.Common.{◌≡◌, ◌≢◌, ℕ, zero, suc, ◌-◌, ◌<◌, true, false, eqb, List, [], ◌∷◌, length, take, drop, get_or, refl}
use Rattle.std.proofs.Common.{ap, ◌∙◌, arith, Some}
use Rattle.std.proofs.lemmas.Bool.{ne_eqb, eq-eqb}
use Rattle.std.proofs.lemmas.List.Splits.{length-slice_split}
use Rattle.std.specs.List.{slice_split}
use Rattle.std.specs.Str.Lines.{lines, lines_of_parts, strip_carriage_return}
use Rattle.pd_edit_lines.specs.Words.{next}

-- the first bytes of a text are no line feeds
abbrev pub NoneBefore : List ℕ → ℕ → Type 0
NoneBefore text n = (k : ℕ) → k < n → get_or text k 0 ≢ 10

abbrev cut : List ℕ → List (List ℕ)
cut text = slice_split (λ b. eqb b 10) text

one_part : (text : List ℕ) → NoneBefore text (length text) → cut text ≡ text ∷ []
one_part [] none = refl
one_part (c ∷ cs) none =
    let here : eqb c 10 ≡ false = ne_eqb c 10 (none 0 (omega arith)) in
    let more = one_part cs (λ k h. none (suc k) (omega arith)) in
    rw (here, more) refl

first_part : (text : List ℕ) (n : ℕ) → n < length text → NoneBefore text n → get_or text n 0 ≡ 10
    → cut text ≡ take n text ∷ cut (drop (suc n) text)
first_part [] n h none found = absurd (omega arith)
first_part (c ∷ cs) zero h none found = let here : eqb c 10 ≡ true = eq-eqb c 10 found in rw here refl
first_part (c ∷ cs) (suc n) h none found =
    let here : eqb c 10 ≡ false = ne_eqb c 10 (none 0 (omega arith)) in
    let more = first_part cs n (omega arith) (λ k l. none (suc k) (omega arith)) found in
    rw (here, more) refl

lines_of_parts-cons : (x : List ℕ) (rest : List (List ℕ)) → 0 < length rest →
    lines_of_parts (x ∷ rest) ≡ strip_carriage_return x ∷ lines_of_parts rest
lines_of_parts-cons x [] l = absurd (omega arith)
lines_of_parts-cons x (y ∷ more) l = refl

take_all : (xs : List ℕ) → take (length xs) xs ≡ xs
take_all [] = refl
take_all (x ∷ xs) = ap (λ v. x ∷ v) (take_all xs)

drop_all : (xs : List ℕ) → drop (length xs) xs ≡ []
drop_all [] = refl
drop_all (x ∷ xs) = drop_all xs

drop_next : (xs : List ℕ) (n : ℕ) → drop 1 (drop n xs) ≡ drop (suc n) xs
drop_next [] zero = refl
drop_next [] (suc n) = refl
drop_next (x ∷ xs) zero = refl
drop_next (x ∷ xs) (suc n) = drop_next xs n

tail_of : (xs : List ℕ) → 0 < length xs → take (length xs - 1) (drop 1 xs) ≡ drop 1 xs
tail_of [] h = absurd (omega arith)
tail_of (x ∷ xs) h = let n : length (x ∷ xs) - 1 ≡ length xs = omega arith in rw n (take_all xs)

one_line : (text : List ℕ) → 0 < length text → NoneBefore text (length text) → lines text ≡ text ∷ []
one_line text some none =
    let is : eqb (length text) 0 ≡ false = ne_eqb (length text) 0 (λ e. omega arith) in
    ap lines_of_parts (one_part text none) ∙ rw is refl

pub positive : (n : ℕ) → eqb n 0 ≡ false → 0 < n
positive zero e = absurd (cc)
positive (suc n) e = omega arith

-- a text without a line feed is one line
pub last_line : (text line rest : List ℕ) (n : ℕ) → line ≡ take n text → rest ≡ drop n text → 0 < length text → n ≡ length text
    → NoneBefore text n → Some (line, lines rest) ≡ next (lines text)
last_line text line rest n front back some all none =
    let whole : line ≡ text = front ∙ ap (λ k. take k text) all ∙ take_all text in
    let over : rest ≡ [] = back ∙ ap (λ k. drop k text) all ∙ drop_all text in
    let one : lines text ≡ text ∷ [] = one_line text some (λ k h. none k (omega arith)) in
    rw (whole, over, one) refl

-- a line before a line feed, and the lines behind that
pub cut_line : (text line rest stripped : List ℕ) (n : ℕ) → line ≡ take n text → rest ≡ drop n text → n < length text
    → 0 < length rest → NoneBefore text n → get_or text n 0 ≡ 10 → stripped ≡ strip_carriage_return line
    → Some (stripped, lines (take (length rest - 1) (drop 1 rest))) ≡ next (lines text)
cut_line text line rest stripped n front back h some none found strip =
    let behind : take (length rest - 1) (drop 1 rest) ≡ drop (suc n) text = tail_of rest some ∙ ap (drop 1) back ∙ drop_next text n in
    let first : stripped ≡ strip_carriage_return (take n text) = strip ∙ ap strip_carriage_return front in
    let all : lines text ≡ strip_carriage_return (take n text) ∷ lines (drop (suc n) text) =
    ap lines_of_parts (first_part text n h none found)
    ∙ lines_of_parts-cons (take n text) (cut (drop (suc n) text)) (omega (arith, length-slice_split (λ b. eqb b 10) (drop (suc n) text))) in
    rw (behind, first, all) refl
