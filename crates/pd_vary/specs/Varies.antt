-- What is written of all rows.
use Rattle.std.specs.Prelude.{◌≡◌, ◌≤◌, ℕ, ◌+◌, ◌==◌, Bool, List, [], ◌∷◌, ◌++◌, ◌⊎◌, length, map, if◌then◌else◌}
use Rattle.std.specs.Prelude.{Option, None, Some, Result, Ok, Err}
use Rattle.std.specs.List.{count_by, flat_map}
use Rattle.std.specs.Io.KnownBytes.{Appends}
use Rattle.pd_device.specs.Device.{WrotePart}
use Rattle.pd_device.specs.declared.fault.BenchFault.{BenchFault}
use Rattle.pd_scenario.specs.Scenarios.{ScenarioData}
use Rattle.pd_sweep.specs.Sweeps.{CountsSweep}
use Rattle.pd_vary.specs.Rows.{IsOutcome, all_hold, lines_with, made}
use Rattle.pd_vary.specs.Sets.{SetData, few_rows, rows_of, set_data, values_at}
use Rattle.pd_vary.specs.Tellings.{head, row_text, summary}
use Rattle.pd_vary.specs.declared.outcome.Outcome.{Outcome}
use Rattle.pd_vary.specs.declared.walk.Kept.{Kept}
use Rattle.pd_vary.specs.declared.walk.Question.{Question}
use Rattle.pd_vary.specs.declared.walk.Row.{Row}

abbrev pub sets_of : Question → List SetData
sets_of q = map set_data q.sets.now

-- the values of a row, and its edit lines; the first row is at 0
abbrev pub values_in : Question → ℕ → List (List ℕ)
values_in q row = values_at (sets_of q) row

abbrev pub lines_in : Question → ℕ → List (List ℕ)
lines_in q row = lines_with (sets_of q) (values_in q row)

-- What is told of a row of a scenario of n ports: of its edit lines, and of what comes of them.
pub record IsRow (n : ℕ) (c : ScenarioData) (q : Question) (place : ℕ) (row : Row) : Type 0 where
  pub is_outcome : IsOutcome c q.asks.now q.wheres.now (made n 1 (lines_in q place) c) row.outcome
  pub text_is : row.text.items ≡ row_text q.form (place + 1) (lines_in q place) (values_in q place) q.asks.now q.wheres.now row.outcome

-- each row is P of its place; the first has this place
unfoldable pub AreInTurn : (ℕ → Row → Type 0) → ℕ → List Row → Type 0
AreInTurn P place [] = Unit {0}
AreInTurn P place (row ∷ rows) = P place row × AreInTurn P (place + 1) rows

-- what stands first, and what is told of these rows
abbrev pub texts_of : Question → List Row → List ℕ
texts_of q rows = head q.form (length q.sets.now) q.asks.now (length q.wheres.now) ++ flat_map (λ (row : Row). row.text.items) rows

-- in how many of them all that is expected holds
abbrev pub holding : List Row → ℕ
holding rows = count_by (λ (row : Row). all_hold row.outcome) rows

-- behind all rows stands their summary
abbrev pub last_of : Question → List Row → List ℕ
last_of q rows =
    if length rows == rows_of (sets_of q) then summary q.form q.wheres.now (length rows) (holding rows) else []

abbrev pub told_of : Question → List Row → List ℕ
told_of q rows = texts_of q rows ++ last_of q rows

-- what comes of each is kept, where it is to be
abbrev pub kept_of_row : Bool → Row → List Outcome
kept_of_row keeps row = if keeps then row.outcome ∷ [] else []

abbrev pub kept_of : Question → List Row → List Outcome
kept_of q rows = flat_map (kept_of_row q.keeps) rows

-- all rows in their order were written, and these kept
pub record WroteRows (n : ℕ) (c : ScenarioData) (q : Question) (kept : List Outcome) (old new : Option (List ℕ)) : Type 0 where
  pub rows : List Row
  pub all : length rows ≡ rows_of (sets_of q)
  pub each : AreInTurn (IsRow n c q) 0 rows
  pub kept_are : kept ≡ kept_of q rows
  pub appends : Appends old new (told_of q rows)

-- some first bytes of what is told of the first of them were
pub record BeganRows (n : ℕ) (c : ScenarioData) (q : Question) (old new : Option (List ℕ)) : Type 0 where
  pub rows : List Row
  pub some : length rows ≤ rows_of (sets_of q)
  pub each : AreInTurn (IsRow n c q) 0 rows
  pub wrote : WrotePart old new (told_of q rows)

-- all rows were told; there are more than a million, and none was; or a fault, before the first byte or later
abbrev pub Varies : ℕ → ScenarioData → Question → Result (Option Kept) BenchFault → Option (List ℕ) → Option (List ℕ) → Type 0
Varies n c q (Ok (Some kept)) old new =
    (few_rows (sets_of q) ≡ Some (rows_of (sets_of q))) × WroteRows n c q kept.outcomes.items old new
Varies n c q (Ok None) old new = (few_rows (sets_of q) ≡ None) × (new ≡ old)
Varies n c q (Err fault) old new = (new ≡ old) ⊎ BeganRows n c q old new

-- the same, and the count of failed writes says whether one failed
pub record VariesScene (q : Question) (n : ℕ) (s : ScenarioData) (result : Result (Option Kept) BenchFault) (taken taken' : Option (List ℕ))
    (writes writes' : ℕ) : Type 0 where
  pub text : Varies n s q result taken taken'
  pub counts : CountsSweep result writes writes'
