-- The first time of a run's entries after an instant is the soonest, since the entries are in the order of time.
use Rattle.std.proofs.Common.{◌≡◌, ℕ, ◌<◌, ◌≤◌, Bool, true, false, List, [], ◌∷◌, Some, None, refl, arith}
use Rattle.std.proofs.lemmas.Bool.Decides.{nat_tests}
use Rattle.std.specs.Prelude.{filter, nat_lt, if◌then◌else◌}
use Rattle.std.specs.List.{AllByRecursion, cons_option}
use Rattle.pd_report.specs.Walk.{NoneBefore}
use Rattle.pd_report.proofs.MarginLemmas.{Rising, all-mono}
use Rattle.pd_expect.specs.Details.{first_time, has_sign, times_of}
use Rattle.pd_expect.specs.OverTime.{IsSoonest}
use Rattle.pd_expect.specs.OverTime.{Moves}
use Rattle.pd_expect.specs.declared.near.Sign.{Sign}

-- entries that are no sooner than a time have no sooner times
none_sooner : (what : Sign) (at : ℕ) (moves : Moves) → NoneBefore at moves → AllByRecursion (λ u. at ≤ u) (times_of what moves)
none_sooner what at [] later = tt
none_sooner what at (m ∷ ms) later = by_test (has_sign what m) (none_sooner what at ms later.1) where
  by_test : (b : Bool) → AllByRecursion (λ u. at ≤ u) (times_of what ms)
      → AllByRecursion (λ u. at ≤ u) (cons_option (if b then Some m.1.at else None) (times_of what ms))
  by_test true rest = (later.0, rest)
  by_test false rest = rest

module _ (to : ℕ) where
  -- a time before those that are no sooner
  first_more : (at : ℕ) (times : List ℕ) → AllByRecursion (λ u. at ≤ u) times
      → IsSoonest times to (first_time (filter (λ u. nat_lt to u) times))
      → IsSoonest (at ∷ times) to (first_time (filter (λ u. nat_lt to u) (at ∷ times)))
  first_more at times later rest = by_test (nat_lt to at) refl where
    is_sooner : (found : _) → at ≤ to → IsSoonest times to found → IsSoonest (at ∷ times) to found
    is_sooner None le soonest = (le, soonest)
    is_sooner (Some t) le soonest = (soonest.0, ((λ h. omega (arith, le, h)), soonest.1))

    by_test : (b : Bool) → nat_lt to at ≡ b
        → IsSoonest (at ∷ times) to (first_time (if b then at ∷ filter (λ u. nat_lt to u) times else filter (λ u. nat_lt to u) times))
    by_test true e =
        let after : to < at = grind (arith, nat_tests, e) in
        (after, ((λ h. omega arith), all-mono (λ u. at ≤ u) (λ u. to < u → at ≤ u) (λ u le h. le) times later))
    by_test false e = is_sooner _ (grind (arith, nat_tests, e)) rest

  pub soonest : (what : Sign) (moves : Moves) → Rising moves
      → IsSoonest (times_of what moves) to (first_time (filter (λ u. nat_lt to u) (times_of what moves)))
  unfolding Rising
  soonest what [] rising = tt
  soonest what (m ∷ ms) rising = by_test (soonest what ms rising.1) (has_sign what m) where
    by_test : IsSoonest (times_of what ms) to (first_time (filter (λ u. nat_lt to u) (times_of what ms))) → (b : Bool)
        → IsSoonest (cons_option (if b then Some m.1.at else None) (times_of what ms)) to
        (first_time (filter (λ u. nat_lt to u) (cons_option (if b then Some m.1.at else None) (times_of what ms))))
    by_test rest true = first_more m.1.at (times_of what ms) (none_sooner what m.1.at ms rising.0) rest
    by_test rest false = rest
