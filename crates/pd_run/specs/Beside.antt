-- Two plans beside one another, gone through from time to time.
use Rattle.std.specs.Prelude.{◌≡◌, ℕ, ◌<◌, Bool, true, false, List, length, slice_index, slice_index_or}
use Rattle.pd_scenario.specs.Plan.{Plan, count, script_of, force}
use Rattle.pd_run.specs.UpTo.{had_by}

-- up to which time; whether both have the same budget at all times; of each port whether both have the same script, and where
-- they haven't, how many events of it have been
pub record BesideData : Type 0 where
  pub at : ℕ
  pub same_budget : Bool
  pub same_scripts : List Bool
  pub old_had : List ℕ
  pub new_had : List ℕ

-- a port whose scripts aren't known to be the same
abbrev pub IsApart : BesideData → ℕ → Type 0
IsApart beside p = slice_index_or beside.same_scripts p false ≡ false

-- these plans have been gone through up to the time
pub record AreBeside (a b : Plan) (beside : BesideData) : Type 0 where
  pub same_scripts : (p : ℕ) → p < count a → slice_index_or beside.same_scripts p false ≡ true → script_of a p ≡ script_of b p
  pub old_had : (p : ℕ) → p < count a → IsApart beside p → slice_index beside.old_had p ≡ had_by beside.at (script_of a p)
  pub new_had : (p : ℕ) → p < count b → IsApart beside p → slice_index beside.new_had p ≡ had_by beside.at (script_of b p)
  pub same_budget : beside.same_budget ≡ true → (t : ℕ) → force a t ≡ force b t

-- there are n ports
pub record HasCounts (n : ℕ) (beside : BesideData) : Type 0 where
  pub scripts_count : length beside.same_scripts ≡ n
  pub old_count : length beside.old_had ≡ n
  pub new_count : length beside.new_had ≡ n
