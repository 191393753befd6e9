-- A kept run in spans: what is kept of each stretch of time.
use Rattle.std.specs.Prelude.{◌≡◌, ℕ, ◌<◌, ◌≤◌, List, [], ◌∷◌, length, map, take, slice_get, slice_index_or, Some, All}
use Rattle.std.specs.List.{flat_map}
use Rattle.pd_scenario.specs.Plan.{Plan, IsPlan}
use Rattle.pd_run.specs.Live.{port_after}
use Rattle.pd_run.specs.Run.{Move}
use Rattle.pd_run.specs.Shown.{SafeRun}
use Rattle.pd_run.specs.Start.{no_port}
use Rattle.pd_run.specs.UpTo.{before}
use Rattle.pd_keep.specs.Kept.{KeptData, move_of, IsOwn}
use Rattle.pd_keep.specs.Kept.{RunData}

-- what is kept of all moves
abbrev pub kept_of_spans : List RunData → List KeptData
kept_of_spans spans = flat_map (λ s. s.moves) spans

-- the moves of a run
abbrev pub moves_of : List RunData → List Move
moves_of spans = map move_of (kept_of_spans spans)

-- the time up to which spans go, the first of which begins at a time
abbrev pub end_of : ℕ → List RunData → ℕ
end_of from [] = from
end_of from (s ∷ spans) = end_of s.to spans

-- the time at which the span of this place begins
abbrev pub begins_at : List RunData → ℕ → ℕ
begins_at spans k = end_of 0 (take k spans)

-- a span begins with n ports as these moves have left them
pub record BeginsAfter (n : ℕ) (plan : Plan) (moves : List Move) (span : RunData) : Type 0 where
  pub count : length span.first ≡ n
  pub ports : (p : ℕ) → p < n → slice_index_or span.first p no_port ≡ port_after plan moves p

-- Moves are kept in spans that follow one another: before each span stand the moves before its time, and it begins with the
-- ports as these have left them.
pub record AreSpans (n : ℕ) (plan : Plan) (spans : List RunData) : Type 0 where
  pub parted : (k : ℕ) → k ≤ length spans → before (begins_at spans k) (moves_of spans) ≡ moves_of (take k spans)
  pub begun : (k : ℕ) (s : RunData) → slice_get spans k ≡ Some s → BeginsAfter n plan (moves_of (take k spans)) s
  pub rising : (k : ℕ) (s : RunData) → slice_get spans k ≡ Some s → begins_at spans k < s.to

-- spans reach to an end, and each is needed for that
pub record Reach (end : ℕ) (spans : List RunData) : Type 0 where
  pub beyond : end < end_of 0 spans
  pub needed : (k : ℕ) → k < length spans → begins_at spans k ≤ end

-- what is kept is the run of a plan of n ports, in spans up to its end
pub record IsKept (n : ℕ) (plan : Plan) (spans : List RunData) : Type 0 where
  pub is_plan : IsPlan n plan
  pub safe : SafeRun plan (moves_of spans)
  pub own : All (IsOwn plan) (kept_of_spans spans)
  pub spanned : AreSpans n plan spans
  pub reach : Reach plan.end spans
