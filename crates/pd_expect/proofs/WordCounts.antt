-- A line has no more words than bytes.
use Rattle.std.proofs.Common.{ℕ, ◌+◌, ◌≤◌, Bool, true, false, cond, eqb, List, [], ◌∷◌, length, arith}
use Rattle.pd_edit_lines.specs.Words.{words, with_byte, is_apart}

one_more : (c : ℕ) (apart : Bool) (ws : List (List ℕ)) (n : ℕ) → length ws ≤ n → length (with_byte c apart ws) ≤ 1 + n
one_more c true ws n h = omega arith
one_more c false [] n h = omega arith
one_more c false (w ∷ ws) n h = omega arith

either : (b : Bool) (xs ys : List (List ℕ)) (n : ℕ) → length xs ≤ n → length ys ≤ n → length (cond b xs ys) ≤ n
either true xs ys n h k = h
either false xs ys n h k = k

pub words_fit : (line : List ℕ) → length (words line) ≤ length line
words_fit [] = omega arith
words_fit (c ∷ cs) =
    let more = words_fit cs in
    either (eqb c 32) (words cs) (with_byte c (is_apart cs) (words cs)) (length (c ∷ cs)) (omega (arith, more))
    (omega (arith, one_more c (is_apart cs) (words cs) (length cs) more))
