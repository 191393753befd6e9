-- The changes of contracts of a run: what they leave at an instant is what the run's entries do, and they are in the order of time.
use Rattle.std.proofs.Common.{◌≡◌, ℕ, ◌-◌, ◌<◌, ◌≤◌, Bool, true, false, cond, List, [], ◌∷◌, ◌++◌, map, Option, Some, None}
use Rattle.std.proofs.Common.{refl, sym, ap, ◌∙◌, arith}
use Rattle.std.specs.Prelude.{◌==◌, ◌&&◌, IsSome, fold, nat_le, nat_lt}
use Rattle.std.specs.List.{cons_option, filter_map, last_or, range_with_len}
use Rattle.std.proofs.lemmas.Bool.Decides.{nat_tests}
use Rattle.std.proofs.lemmas.List.{append-nil, append_assoc}
use Rattle.pd_objects.specs.declared.contract.Contract.{Contract}
use Rattle.pd_port.specs.declared.entry.ContractChange.{ContractChange}
use Rattle.pd_port.specs.declared.entry.Entry.{Entry}
use Rattle.pd_report.specs.Margins.{up_to}
use Rattle.pd_report.specs.Walk.{NoneBefore as NoEntryBefore}
use Rattle.pd_report.proofs.MarginLemmas.{Moves, Rising, in-order}
use Rattle.pd_run.specs.Shown.{AreEntriesOf}
use Rattle.pd_run.specs.declared.note.Note.TheVariants as note
use Rattle.pd_run.specs.Notes.{Leaves}
use Rattle.pd_scenario.specs.Plan.{Plan}
use Rattle.pd_sweep.specs.Along.{gathered}
use Rattle.pd_sweep.specs.Beside.{AreInOrder, AreRising, NoneBefore, measures_by, stands_at, stepped}
use Rattle.pd_sweep.specs.Measures.{contract_at, measure_by, measure_of, measures_of, step_of, step_with, steps_of}
use Rattle.pd_sweep.specs.Summaries.{change_of, contract_left, last_change, left_by}
use Rattle.pd_sweep.specs.declared.measure.Measure.{Measure}
use Rattle.pd_sweep.specs.declared.measure.Step.{Step}
use Rattle.pd_sweep.proofs.StepLemmas.{measured-same}
use Rattle.pd_sweep.proofs.WalkLemmas.{left_then}

-- ---- what stands at an instant

module _ (port t end : ℕ) (soon : t < end) where
  same_either : (b : Bool) (x : Option Contract) → cond b x x ≡ x
  same_either true x = refl
  same_either false x = refl

  and_false : (b : Bool) → (b && false) ≡ false
  and_false true = refl
  and_false false = refl

  -- after the change of an entry
  abbrev then : Option Contract → ℕ × Entry → Option ContractChange → Option Contract
  then x m o = cond ((m.0 - 1 == port) && nat_le m.1.at t) (left_by x o) x

  one_step : (o : Option ContractChange) (x : Option Contract) (m : ℕ × Entry) (steps : List Step)
      → fold (stepped port t) x (cons_option (step_with end m o) steps) ≡ fold (stepped port t) (then x m o) steps
  one_step None x m steps =
      ap (λ y. fold (stepped port t) y steps) (sym (same_either ((m.0 - 1 == port) && nat_le m.1.at t) x))
  one_step (Some change) x m steps = by_test (nat_lt m.1.at end) refl where
    by_test : (b : Bool) → nat_lt m.1.at end ≡ b
        → fold (stepped port t) x
        (cons_option (cond b (Some (record { at = m.1.at; port = m.0 - 1; left = contract_left change })) None) steps)
        ≡ fold (stepped port t) (then x m (Some change)) steps
    by_test true e = refl
    by_test false e =
        let past : nat_le m.1.at t ≡ false = grind (arith, nat_tests, e, soon) in
        ap (λ y. fold (stepped port t) y steps)
        (sym (ap (λ b. cond ((m.0 - 1 == port) && b) (contract_left change) x) past
        ∙ ap (λ b. cond b (contract_left change) x) (and_false (m.0 - 1 == port))))

  entry_then : (b a : Bool) (o : Option ContractChange) (x : Option Contract) (m : ℕ × Entry) (moves : Moves) →
      change_of port m ≡ cond b o None →
      left_by (cond (b && a) (left_by x o) x) (last_change port moves) ≡ left_by x (last_change port (cond a (m ∷ moves) moves))
  entry_then true true o x m moves e =
      left_then x o (filter_map (change_of port) moves)
      ∙ ap (λ c. left_by x (last_or None (cons_option c (filter_map (change_of port) moves)))) (sym e)
  entry_then false true o x m moves e =
      ap (λ c. left_by x (last_or None (cons_option c (filter_map (change_of port) moves)))) (sym e)
  entry_then true false o x m moves e = refl
  entry_then false false o x m moves e = refl

  all_steps : (x : Option Contract) (moves : Moves)
      → fold (stepped port t) x (filter_map (step_of end) moves) ≡ left_by x (last_change port (up_to t moves))
  all_steps x [] = refl
  all_steps x (m ∷ moves) =
      one_step m.1.contract x m (filter_map (step_of end) moves) ∙ all_steps (then x m m.1.contract) moves
      ∙ entry_then (m.0 - 1 == port) (nat_le m.1.at t) m.1.contract x m (up_to t moves) refl

  pub stands_there : (moves : Moves) → stands_at (steps_of end moves) port t ≡ contract_at moves port t
  unfolding steps_of
  stands_there moves = all_steps None moves

-- the measures of two runs are those of their changes
pub measured_by_steps : (end : ℕ) (base moves : Moves)
    → measures_by end (steps_of end base) (steps_of end moves) ≡ measures_of end base moves
unfolding measures_by measures_of
measured_by_steps end base moves =
    ap (λ (f : ℕ → Measure). map f (range_with_len 0 8)) (λ i port. each port i) where
      each : (port : ℕ)
          → measure_by end (stands_at (steps_of end base) port) (stands_at (steps_of end moves) port) ≡ measure_of end base moves port
      each port =
          measured-same (stands_at (steps_of end base) port) (stands_at (steps_of end moves) port) (contract_at base port)
          (contract_at moves port) end (λ t soon. stands_there port t end soon base) (λ t soon. stands_there port t end soon moves)

-- ---- their order

module _ (end : ℕ) where
  none_before : (at : ℕ) (moves : Moves) → NoEntryBefore at moves → NoneBefore at (filter_map (step_of end) moves)
  none_before at [] h = tt
  none_before at (m ∷ moves) h = by_change m.1.contract (none_before at moves h.1) where
    by_test : (b : Bool) (s : Step) → at ≤ s.at → NoneBefore at (filter_map (step_of end) moves)
        → NoneBefore at (cons_option (cond b (Some s) None) (filter_map (step_of end) moves))
    by_test true s le rest = (le, rest)
    by_test false s le rest = rest

    by_change : (o : Option ContractChange) → NoneBefore at (filter_map (step_of end) moves)
        → NoneBefore at (cons_option (step_with end m o) (filter_map (step_of end) moves))
    by_change None rest = rest
    by_change (Some change) rest =
        by_test (nat_lt m.1.at end) (record { at = m.1.at; port = m.0 - 1; left = contract_left change }) h.0 rest

  ordered : (moves : Moves) → Rising moves → AreInOrder end (filter_map (step_of end) moves)
  unfolding Rising AreRising
  ordered [] rising = record { rising = tt; soon = tt }
  ordered (m ∷ moves) rising = by_change m.1.contract (ordered moves rising.1) where
    by_test : (b : Bool) (s : Step) → nat_lt s.at end ≡ b → s.at ≡ m.1.at → AreInOrder end (filter_map (step_of end) moves)
        → AreInOrder end (cons_option (cond b (Some s) None) (filter_map (step_of end) moves))
    by_test true s e same rest =
        let soon : s.at < end = grind (arith, nat_tests, e) in
        let later : NoneBefore s.at (filter_map (step_of end) moves) = rw same (none_before m.1.at moves rising.0) in
        record { rising = (later, rest.rising); soon = (soon, rest.soon) }
    by_test false s e same rest = rest

    by_change : (o : Option ContractChange) → AreInOrder end (filter_map (step_of end) moves)
        → AreInOrder end (cons_option (step_with end m o) (filter_map (step_of end) moves))
    by_change None rest = rest
    by_change (Some change) rest =
        by_test (nat_lt m.1.at end) (record { at = m.1.at; port = m.0 - 1; left = contract_left change }) refl refl rest

pub steps_in_order : (n : ℕ) (plan : Option Plan) (moves : Moves) (end : ℕ) → AreEntriesOf n plan moves
    → AreInOrder end (steps_of end moves)
unfolding steps_of
steps_in_order n plan moves end are = ordered end moves (in-order n plan moves are).rising

-- ---- gathering them

module _ (end : ℕ) where
  no_step : (steps : List Step) (m : ℕ × Entry) (o : Option ContractChange) → ¬ IsSome o
      → steps ++ cons_option (step_with end m o) [] ≡ steps
  no_step steps m None h = append-nil steps
  no_step steps m (Some change) h = absurd (h refl)

  pub quiet_step : (steps : List Step) (m : ℕ × Entry) → ¬ Leaves note.Contract m → gathered end steps m ≡ steps
  quiet_step steps m h = no_step steps m m.1.contract h

  one_before : (o : Option Step) (steps rest : List Step) → (steps ++ cons_option o []) ++ rest ≡ steps ++ cons_option o rest
  one_before None steps rest = ap (λ l. l ++ rest) (append-nil steps)
  one_before (Some s) steps rest = append_assoc steps (s ∷ []) rest

  gathered_from : (steps : List Step) (moves : Moves) → fold (gathered end) steps moves ≡ steps ++ filter_map (step_of end) moves
  gathered_from steps [] = sym (append-nil steps)
  gathered_from steps (m ∷ moves) =
      gathered_from (gathered end steps m) moves ∙ one_before (step_of end m) steps (filter_map (step_of end) moves)

  pub steps_gathered : (moves : Moves) → fold (gathered end) [] moves ≡ steps_of end moves
  unfolding steps_of
  steps_gathered moves = gathered_from [] moves
