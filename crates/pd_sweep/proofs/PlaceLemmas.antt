-- The place of a time in a run.
use Rattle.std.proofs.Common.{◌≡◌, ◌≢◌, ℕ, zero, suc, ◌+◌, ◌<◌, ◌≤◌, Bool, true, [], ◌∷◌, length, take, drop, refl, ap}
use Rattle.std.proofs.Common.{Option, Some, None, subst, ◌∙◌, sym, arith}
use Rattle.std.specs.Prelude.{◌&&◌, MatchOption, fold, nat_lt, slice_get, unwrap_or}
use Rattle.std.proofs.lemmas.Bool.{ltb-true, ne_eqb}
use Rattle.std.proofs.lemmas.Option.{slice_get_within}
use Rattle.pd_port.specs.declared.entry.Entry.{Entry}
use Rattle.pd_report.specs.Walk.{NoneBefore}
use Rattle.pd_report.proofs.MarginLemmas.{InOrder, Moves, all-append, none-before-here, take-next}
use Rattle.pd_report.proofs.NotedLemmas.{along, at_index}
use Rattle.pd_sweep.specs.Along.{makers_after, nobody}
use Rattle.pd_sweep.specs.Summaries.{is_made}
use Rattle.pd_sweep.specs.Trials.{AreBefore}
use Rattle.pd_sweep.specs.declared.makers.Makers.{Makers}
use Rattle.pd_sweep.proofs.QuietLemmas.{makers_if}

same_some : (x m : ℕ × Entry) → Some x ≡ Some m → x ≡ m
same_some x m e = ap (λ o. unwrap_or o x) e

-- one of the entries of which none is before a time
none_before_at : (t : ℕ) (moves : Moves) (i : ℕ) (m : ℕ × Entry) → NoneBefore t moves → slice_get moves i ≡ Some m → t ≤ m.1.at
none_before_at t [] i m h e = absurd (cc)
none_before_at t (x ∷ xs) zero m h e = subst (λ (y : ℕ × Entry). t ≤ y.1.at) (same_some x m e) h.0
none_before_at t (x ∷ xs) (suc i) m h e = none_before_at t xs i m h.1 e

-- one of the entries from an index on, of which none is before a time
none_before_to : (t : ℕ) (moves : Moves) (k i : ℕ) (m : ℕ × Entry) → NoneBefore t (drop k moves) → k ≤ i → slice_get moves i ≡ Some m →
    t ≤ m.1.at
none_before_to t moves zero i m h le e = none_before_at t moves i m h e
none_before_to t [] (suc k) i m h le e = absurd (cc)
none_before_to t (x ∷ xs) (suc k) zero m h le e = absurd (omega (arith, le))
none_before_to t (x ∷ xs) (suc k) (suc i) m h le e = none_before_to t xs k i m h (omega (arith, le)) e

-- where an entry is before a time, those before it are too
all_before : (t : ℕ) (moves : Moves) (i : ℕ) (m : ℕ × Entry) → InOrder moves → slice_get moves i ≡ Some m → m.1.at < t →
    AreBefore t (take (i + 1) moves)
all_before t moves i m order e lt = along (λ k. AreBefore t (take k moves)) 0 (i + 1) (omega arith) tt step
  where
    step : (k : ℕ) → 0 ≤ k → k < i + 1 → AreBefore t (take k moves) → AreBefore t (take (k + 1) moves)
    step k low high so =
        let within : i < length moves = slice_get_within moves i m e in
        let here = at_index moves k (omega (arith, high, within)) in
        let none = none-before-here moves k here.0 here.1 here.0.1.at (omega arith) order in
        let le = none_before_to here.0.1.at moves k i m none (omega (arith, high)) e in
        subst (AreBefore t) (sym (take-next moves k here.0 here.1))
        (all-append (λ (y : ℕ × Entry). y.1.at < t) (take k moves) (here.0 ∷ []) so (omega (arith, le, lt), tt))

pub before_more : (t : ℕ) (moves : Moves) (i : ℕ) (b : Bool) → InOrder moves →
    MatchOption (slice_get moves i) ⊥ (λ move. b ≡ nat_lt move.1.at t) → b ≡ true → AreBefore t (take (i + 1) moves)
before_more t moves i b order h so = by_case (slice_get moves i) refl h
  where
    by_case : (o : Option (ℕ × Entry)) → slice_get moves i ≡ o → MatchOption o ⊥ (λ move. b ≡ nat_lt move.1.at t) →
        AreBefore t (take (i + 1) moves)
    by_case None e k = absurd k
    by_case (Some m) e k = all_before t moves i m order e (ltb-true m.1.at t (sym k ∙ so))

-- an entry before an instant makes no contract then
not_made_yet : (at : ℕ) (s : Makers) (m : ℕ × Entry) → m.1.at < at → makers_after at s m ≡ s
not_made_yet at s m lt =
    let other : m.1.at ≢ at = λ e. absurd (omega (arith, lt, e)) in
    ap (λ b. makers_if at s m (b && is_made m.1.contract)) (ne_eqb m.1.at at other)

pub none_made : (at : ℕ) (moves : Moves) → AreBefore at moves → fold (makers_after at) nobody moves ≡ nobody
none_made at [] h = refl
none_made at (m ∷ ms) h = ap (λ s. fold (makers_after at) s ms) (not_made_yet at nobody m h.0) ∙ none_made at ms h.1
