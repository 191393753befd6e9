-- What holds of sets and their rows.
use Rattle.std.specs.Prelude.{◌≡◌, ◌≤◌, ◌<◌, ℕ, ◌+◌, ◌*◌, List, map, Ok}
use Rattle.std.specs.List.{range_with_len}
use Rattle.pd_vary.specs.Sets.{SetData, combinations, rows_of, stepped, steps, values_at}

-- the rows are all combinations of values, each once, the first set's values turning slowest
abbrev pub RowsAreCombinations : Type 0
RowsAreCombinations = (sets : List SetData) → map (values_at sets) (range_with_len 0 (rows_of sets)) ≡ combinations sets

-- A range begins at its first number, and no step more of it would be up to its last.
pub record IsWhole (from to step count : ℕ) : Type 0 where
  pub within : (i : ℕ) → i < count → from + i * step ≤ to
  pub whole : to < from + count * step

abbrev pub RangesAreWhole : Type 0
RangesAreWhole = (from to step count : ℕ) → stepped from to step ≡ Ok (steps from step count) → IsWhole from to step count
