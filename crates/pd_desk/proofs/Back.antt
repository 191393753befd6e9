-- Edits that are taken back.
use Rattle.std.proofs.Common.{◌≡◌, ◌≤◌, ◌+◌, ◌-◌, ℕ, zero, suc, List, [], ◌∷◌, ◌++◌, length}
use Rattle.std.proofs.Common.{refl, sym, ap, ◌∙◌, append_assoc, arith, subst}
use Rattle.std.proofs.lemmas.Bool.{lt-ltb}
use Rattle.std.specs.Prelude.{slice_index_or}
use Rattle.std.proofs.lemmas.List.{length-append}
use Rattle.std.proofs.Math.Seq.{get_or-append_seam}
use Rattle.pd_scenario.specs.Scenarios.{ScenarioData}
use Rattle.pd_desk.specs.Desk.{Back, Standing, step_of}
use Rattle.pd_desk.specs.History.{noted, notes_data, past_with, StepData}
use Rattle.pd_desk.specs.Laws.{ThereAndBack}

-- so many steps back: what stood there, and the steps behind it
record StoodThere (steps : List StepData) (count : ℕ) (d' : Standing) : Type 0 where
  pub front : List StepData
  pub back : StepData
  pub between : List StepData
  pub are : steps ≡ front ++ back ∷ between
  pub count_is : length between ≡ count
  pub scenario_is : d'.scenario ≡ back.scenario
  pub earlier_are : d'.notes.earlier ≡ front

stood_there : (count : ℕ) (d d' : Standing) → Back (suc count) d d' → StoodThere d.notes.earlier count d'
stood_there zero d d' (mid, same, step) = record {
  front = step.front;
  back = step.back;
  between = [];
  are = rw same at step.earlier_are;
  count_is = refl;
  scenario_is = ap (λ (u : Standing). u.scenario) step.after_is;
  earlier_are = ap (λ (u : Standing). u.notes.earlier) step.after_is;
}
stood_there (suc count) d d' (mid, before, step) =
    let there = stood_there count d mid before in
    record {
      front = step.front;
      back = step.back;
      between = there.back ∷ there.between;
      are = there.are ∙ ap (λ (v : List StepData). v ++ there.back ∷ there.between) (sym there.earlier_are ∙ step.earlier_are)
          ∙ append_assoc step.front (step.back ∷ []) (there.back ∷ there.between);
      count_is = omega (arith, there.count_is);
      scenario_is = ap (λ (u : Standing). u.scenario) step.after_is;
      earlier_are = ap (λ (u : Standing). u.notes.earlier) step.after_is;
    }

-- what comes of so many steps back to what stood at a place
pub record Undone (before : ℕ) (d d' : Standing) (target : ScenarioData) : Type 0 where
  pub back : Back (suc before) d d'
  pub scenario : d'.scenario ≡ target
  pub tally : d'.tally ≡ d.tally

same_tally : (count : ℕ) (d d' : Standing) → Back count d d' → d'.tally ≡ d.tally
same_tally zero d d' same = ap (λ (u : Standing). u.tally) same
same_tally (suc count) d d' (mid, before, step) = ap (λ (u : Standing). u.tally) step.after_is ∙ same_tally count d mid before

undone_from : (before : ℕ) (d d' : Standing) (step : StepData) → Back (suc before) d d'
    → step ≡ slice_index_or d.notes.earlier (length d.notes.earlier - (before + 1)) step → Undone before d d' step.scenario
undone_from before d d' step back got =
    let there = stood_there before d d' back in
    let place : length d.notes.earlier - (before + 1) ≡ length there.front =
    omega (arith, ap (λ (v : List StepData). length v) there.are, length-append there.front (there.back ∷ there.between), there.count_is) in
    let one : step ≡ there.back = got ∙ ap (λ k. slice_index_or d.notes.earlier k step) place
    ∙ ap (λ (v : List StepData). slice_index_or v (length there.front) step) there.are
    ∙ get_or-append_seam there.front there.back there.between step in
    record {
      back = back;
      scenario = there.scenario_is ∙ ap (λ (s : StepData). s.scenario) (sym one);
      tally = same_tally (suc before) d d' back;
    }

pub undone : (before count left : ℕ) (d d' : Standing) (later : List StepData) (step : StepData) (target : ScenarioData)
    → count ≡ before + 1 → left ≡ length d.notes.earlier → later ≡ d.notes.later
    → Back count (record {
      first = d.first;
      scenario = d.scenario;
      number = d.number;
      saved = d.saved;
      notes = notes_data d.notes.older d.notes.earlier later;
      tally = d.tally;
    }) d' → step ≡ slice_index_or d.notes.earlier (left - count) step → step.scenario ≡ target → Undone before d d' target
undone before count left d d' later step target count_is left_is later_is back got is =
    let counted : count ≡ suc before = omega (arith, count_is) in
    let from_d : Back (suc before) d d' = subst (λ k. Back k d d') counted
    (subst (λ (l : List StepData). Back count (record {
      first = d.first;
      scenario = d.scenario;
      number = d.number;
      saved = d.saved;
      notes = notes_data d.notes.older d.notes.earlier l;
      tally = d.tally;
    }) d') later_is back) in
    let place : left - count ≡ length d.notes.earlier - (before + 1) = omega (arith, left_is, count_is) in
    let there = undone_from before d d' step from_d (got ∙ ap (λ k. slice_index_or d.notes.earlier k step) place) in
    record { back = from_d; scenario = there.scenario ∙ is; tally = there.tally }

-- the last ones of two lists that are the same
record SameLast (a b : List StepData) (x y : StepData) : Type 0 where
  pub front : a ≡ b
  pub last : x ≡ y

same_last : (a b : List StepData) (x y : StepData) → a ++ x ∷ [] ≡ b ++ y ∷ [] → SameLast a b x y
same_last [] [] x y e = record { front = refl; last = cc }
same_last [] (b ∷ bs) x y e =
    let long = ap (λ (v : List StepData). length v) e in absurd (omega (arith, long, length-append bs (y ∷ [])))
same_last (a ∷ xs) [] x y e =
    let long = ap (λ (v : List StepData). length v) e in absurd (omega (arith, long, length-append xs (x ∷ [])))
same_last (a ∷ xs) (b ∷ bs) x y e =
    let rest : xs ++ x ∷ [] ≡ bs ++ y ∷ [] = cc in
    let one : a ≡ b = cc in
    let same = same_last xs bs x y rest in
    record { front = ap (λ (v : List StepData). a ∷ v) same.front ∙ ap (λ v. v ∷ bs) one; last = same.last }

-- what stands where the last edit is made again
again : (d : Standing) (front : List StepData) (back : StepData) (later : List StepData) → d.notes.earlier ≡ front ++ back ∷ [] →
    length d.notes.earlier ≤ 100 → noted (notes_data d.notes.older front later) back d.notes.later ≡ d.notes
again d front back later is few =
    let room = lt-ltb (length front) 100 (omega (arith, ap (λ (v : List StepData). length v) is, length-append front (back ∷ []), few)) in
    ap (λ t. let past = past_with t d.notes.older front back in notes_data past.0 past.1 d.notes.later) room
    ∙ ap (λ v. notes_data d.notes.older v d.notes.later) (sym is)

pub there_and_back : ThereAndBack
there_and_back d d' d'' few back forward =
    let laters = sym (ap (λ (u : Standing). u.notes.later) back.after_is) ∙ forward.later_are in
    let same = same_last d.notes.later forward.front (step_of d back.back.line) forward.next laters in
    let d'_is = back.after_is in
    forward.after_is ∙ rw (d'_is, ← same.front, ← same.last)
    (ap (λ notes. record {
      first = d.first;
      scenario = d.scenario;
      number = d.number;
      saved = d.saved;
      notes = notes;
      tally = d.tally;
    }) (again d back.front back.back (d.notes.later ++ step_of d back.back.line ∷ []) back.earlier_are few))
