-- The supplies of a line, read two words at a time.
use Rattle.std.proofs.Common.{◌≡◌, ℕ, ◌<◌, ◌≤◌, true, false, ◌&&◌, ◌==◌, List, [], ◌∷◌, ◌++◌, length, refl, arith, append_assoc}
use Rattle.std.proofs.Common.{length-append, Some, None}
use Rattle.std.specs.Prelude.{Option, nat_le, option_and_then, is_some}
use Rattle.std.proofs.lemmas.List.{append-nil}
use Rattle.std.proofs.lemmas.Bool.{false≢true}
use Rattle.std.proofs.lemmas.Bool.Decides.{nat_tests}
use Rattle.pd_edit_lines.specs.Words.{number_at, end_of}
use Rattle.pd_edit_lines.specs.Grammar.{Words, supplies_of, few_supplies, with_supplies}
use Rattle.pd_edit_lines.specs.declared.edit.WrittenSupply.{WrittenSupply}
use Rattle.pd_edit_lines.proofs.FirstNumber.{begins}

joined : (read : List WrittenSupply) (s : WrittenSupply) (o : Option (List WrittenSupply))
    → option_and_then (λ supplies. few_supplies ((read ++ s ∷ []) ++ supplies)) o ≡ option_and_then
    (λ supplies. few_supplies (read ++ supplies)) (option_and_then (λ supplies. Some (s ∷ supplies)) o)
joined read s None = refl
joined read s (Some supplies) = rw append_assoc

pub one_more : (read : List WrittenSupply) (ws xs ys : Words) (m a : ℕ) → Some (m, xs) ≡ number_at ws → Some (a, ys) ≡ number_at xs
    → with_supplies (read ++ record { mv = m; ma = a } ∷ []) ys ≡ with_supplies read ws
one_more read ws xs ys m a mv ma =
    let first = begins ws m xs mv in
    let second = begins xs a ys ma in
    rw (first.are, second.are, first.is, second.is) (joined read (record { mv = m; ma = a }) (supplies_of ys))

pub shorter : (ws xs ys : Words) (m a : ℕ) → Some (m, xs) ≡ number_at ws → Some (a, ys) ≡ number_at xs → length ys < length ws
shorter ws xs ys m a mv ma =
    let first = begins ws m xs mv in
    let second = begins xs a ys ma in
    rw (first.are, second.are) (omega arith)

many : (n : ℕ) → 7 < n → (nat_le 1 n && nat_le n 7) ≡ false
many n h = grind (arith, nat_tests)

too_many : (read : List WrittenSupply) (s : WrittenSupply) (o : Option (List WrittenSupply)) → 7 ≤ length read
    → None ≡ option_and_then (λ supplies. few_supplies ((read ++ s ∷ []) ++ supplies)) o
too_many read s None full = refl
too_many read s (Some supplies) full =
    let long : 7 < length ((read ++ s ∷ []) ++ supplies) = simp length-append (omega arith) in
    rw (many (length ((read ++ s ∷ []) ++ supplies)) long)

pub full : (read : List WrittenSupply) (ws xs ys : Words) (m a : ℕ) → Some (m, xs) ≡ number_at ws → Some (a, ys) ≡ number_at xs
    → 7 ≤ length read
    → None ≡ with_supplies read ws
full read ws xs ys m a mv ma many =
    rw (← one_more read ws xs ys m a mv ma) (too_many read (record { mv = m; ma = a }) (supplies_of ys) many)

few : (n : ℕ) → 1 ≤ n → n ≤ 7 → (nat_le 1 n && nat_le n 7) ≡ true
few n some h = grind (arith, nat_tests)

pub some_read : (n : ℕ) → false ≡ (n == 0) → 1 ≤ n
some_read n h = grind (arith, nat_tests)

pub at_end : (read : List WrittenSupply) (ws : Words) → is_some (end_of ws) ≡ true → 1 ≤ length read → length read ≤ 7
    → Some (record { items = read }) ≡ with_supplies read ws
at_end read [] over some h = rw (append-nil read, few (length read) some h)
at_end read (w ∷ ws) over some h = absurd (false≢true over)
