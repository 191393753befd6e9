-- A contract stands as it is from one instant up to the next at which it changes.
use Rattle.std.proofs.Common.{◌≡◌, ℕ, ◌<◌, ◌≤◌, Bool, true, false, List, [], ◌∷◌, Option, Some, None, refl, sym, ap, ◌∙◌, arith}
use Rattle.std.proofs.lemmas.Bool.Decides.{nat_tests}
use Rattle.std.specs.Prelude.{◌==◌, ◌&&◌, nat_le, nat_lt, is_some, if◌then◌else◌}
use Rattle.std.specs.List.{AllByRecursion, cons_option, filter_map, last_or}
use Rattle.pd_port.specs.declared.entry.ContractChange.{ContractChange}
use Rattle.pd_port.specs.declared.entry.Entry.{Entry}
use Rattle.pd_report.specs.Margins.{change_on, up_to}
use Rattle.pd_report.proofs.MarginLemmas.{all-mono}
use Rattle.pd_sweep.specs.Summaries.{left_by}
use Rattle.pd_expect.specs.Details.{times_of}
use Rattle.pd_expect.specs.OverTime.{Holds, IsSoonest, Moves, contract_at, is_wanted}
use Rattle.pd_expect.specs.declared.lines.Wanted.{Wanted}
use Rattle.pd_expect.specs.declared.near.Sign.TheVariants as sign

module _ (port t s : ℕ) (le : t ≤ s) where
  -- no change of the port's contract is after the one instant and not after the other
  abbrev Steady : List ℕ → Type 0
  Steady = AllByRecursion (λ u. t < u → s < u)

  abbrev changes : ℕ → Moves → List ContractChange
  changes at moves = filter_map (change_on port) (up_to at moves)

  pub same_tests : (at : ℕ) → (t < at → s < at) → nat_le at s ≡ nat_le at t
  same_tests at steady = by_tests (nat_le at t) refl (nat_le at s) refl where
    by_tests : (a : Bool) → nat_le at t ≡ a → (b : Bool) → nat_le at s ≡ b → b ≡ a
    by_tests true e true f = refl
    by_tests false e false f = refl
    by_tests true e false f = absurd (let first : at ≤ t = grind (arith, nat_tests, e) in
        let second : s < at = grind (arith, nat_tests, f) in omega (arith, first, second, le))
    by_tests false e true f = absurd (let first : t < at = grind (arith, nat_tests, e) in
        let second : at ≤ s = grind (arith, nat_tests, f) in omega (arith, steady first, second))

  -- an entry without a change of it
  quiet : (m : ℕ × Entry) (ms : Moves) → change_on port m ≡ None → changes s ms ≡ changes t ms
      → filter_map (change_on port) (if nat_le m.1.at s then m ∷ up_to s ms else up_to s ms)
      ≡ filter_map (change_on port) (if nat_le m.1.at t then m ∷ up_to t ms else up_to t ms)
  quiet m ms none rest = by_tests (nat_le m.1.at s) (nat_le m.1.at t) where
    passed : (at : ℕ) (b : Bool) → filter_map (change_on port) (if b then m ∷ up_to at ms else up_to at ms) ≡ changes at ms
    passed at true = ap (λ c. cons_option c (changes at ms)) none
    passed at false = refl

    by_tests : (a b : Bool) → filter_map (change_on port) (if a then m ∷ up_to s ms else up_to s ms)
        ≡ filter_map (change_on port) (if b then m ∷ up_to t ms else up_to t ms)
    by_tests a b = passed s a ∙ rest ∙ sym (passed t b)

  -- one entry more, whose port is tested, and whose contract changes or not
  one_more : (b : Bool) (o : Option ContractChange) (m : ℕ × Entry) (ms : Moves) → (change_on port m ≡ if b then o else None)
      → Steady (cons_option (if b && is_some o then Some m.1.at else None) (times_of (sign.Change port) ms))
      → changes s ms ≡ changes t ms
      → filter_map (change_on port) (if nat_le m.1.at s then m ∷ up_to s ms else up_to s ms)
      ≡ filter_map (change_on port) (if nat_le m.1.at t then m ∷ up_to t ms else up_to t ms)
  one_more true (Some c) m ms e steady rest = rw (same_tests m.1.at steady.0) (by_test (nat_le m.1.at t)) where
    by_test : (b : Bool) → filter_map (change_on port) (if b then m ∷ up_to s ms else up_to s ms)
        ≡ filter_map (change_on port) (if b then m ∷ up_to t ms else up_to t ms)
    by_test true = ap (λ v. cons_option (change_on port m) v) rest
    by_test false = rest
  one_more true None m ms e steady rest = quiet m ms e rest
  one_more false o m ms e steady rest = quiet m ms e rest

  pub steady_changes : (moves : Moves) → Steady (times_of (sign.Change port) moves) → changes s moves ≡ changes t moves
  steady_changes [] steady = refl
  steady_changes (m ∷ ms) steady =
      one_more (m.0 == port) m.1.contract m ms refl steady (steady_changes ms (rest_of (m.0 == port && is_some m.1.contract) steady)) where
        rest_of : (b : Bool) → Steady (cons_option (if b then Some m.1.at else None) (times_of (sign.Change port) ms))
            → Steady (times_of (sign.Change port) ms)
        rest_of true h = h.1
        rest_of false h = h

  pub steady_contract : (moves : Moves) → Steady (times_of (sign.Change port) moves) → contract_at port s moves ≡ contract_at port t moves
  steady_contract moves steady = ap (λ (cs : List ContractChange). left_by None (last_or None cs)) (steady_changes moves steady)

module _ (port at : ℕ) (moves : Moves) where
  -- up to the soonest change after an instant
  pub steady_to : (next s : ℕ) → IsSoonest (times_of (sign.Change port) moves) at (Some next) → at ≤ s → s < next
      → contract_at port s moves ≡ contract_at port at moves
  steady_to next s soonest le before =
      steady_contract port at s le moves
      (all-mono (λ u. at < u → next ≤ u) (λ u. at < u → s < u) (λ u later h. omega (arith, later h, before)) _ soonest.1)

  -- and to the end, where there is none
  pub steady_on : (s : ℕ) → IsSoonest (times_of (sign.Change port) moves) at None → at ≤ s
      → contract_at port s moves ≡ contract_at port at moves
  steady_on s none le =
      steady_contract port at s le moves
      (all-mono (λ u. u ≤ at) (λ u. at < u → s < u) (λ u before h. absurd (omega (arith, before, h))) _ none)

  -- what holds of the contract there holds of it until then
  module _ (wanted : Wanted) (from : ℕ) (so : is_wanted wanted (contract_at port at moves) ≡ true)
      (held : (t : ℕ) → from ≤ t → t < at → Holds port wanted moves t) where
    pub held_to : (next : ℕ) → IsSoonest (times_of (sign.Change port) moves) at (Some next)
        → (t : ℕ) → from ≤ t → t < next → Holds port wanted moves t
    held_to next soonest t le before = by_test (nat_lt t at) refl where
      by_test : (b : Bool) → nat_lt t at ≡ b → Holds port wanted moves t
      by_test true e = held t le (grind (arith, nat_tests, e))
      by_test false e = rw (steady_to next t soonest (grind (arith, nat_tests, e)) before) so

    pub held_on : IsSoonest (times_of (sign.Change port) moves) at None → (t : ℕ) → from ≤ t → Holds port wanted moves t
    held_on none t le = by_test (nat_lt t at) refl where
      by_test : (b : Bool) → nat_lt t at ≡ b → Holds port wanted moves t
      by_test true e = held t le (grind (arith, nat_tests, e))
      by_test false e = rw (steady_on t none (grind (arith, nat_tests, e))) so
