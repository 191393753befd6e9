-- Which moves of a run are fresh, beside an older run.
use Rattle.std.specs.Prelude.{◌≡◌, ◌⊎◌, ℕ, ◌+◌, List, [], ◌∷◌, length, Contains, Option, None, Some}
use Rattle.pd_port.specs.Meter.{raised}
use Rattle.pd_scenario.specs.Plan.{Plan, settings_of}
use Rattle.pd_run.specs.Run.{Move, Run}

-- a plan, if there is one, and the moves of its run
pub record Running : Type 0 where
  pub plan : Option Plan
  pub moves : List Move

-- a move of the old plan's run and one of the plan's run are the same: of one port and time, with the same record before,
-- settings, due and answer
pub record IsSame (old_plan : Plan) (old : Move) (plan : Plan) (m : Move) : Type 0 where
  pub port : old.port ≡ m.port
  pub before : old.before ≡ m.before
  pub settings : settings_of old_plan old.port ≡ settings_of plan m.port
  pub due : old.due ≡ m.due
  pub answer : old.answer ≡ m.answer

-- the old run has this move too
abbrev pub IsRepeated : Plan → List Move → Plan → Move → Type 0
IsRepeated old_plan old plan m = (o : Move) × Contains old o × IsSame old_plan o plan m

-- so many of these moves are fresh: the old run doesn't have them
abbrev pub AreFresh : Plan → List Move → Plan → List Move → ℕ → Type 0
AreFresh old_plan old plan [] n = n ≡ 0
AreFresh old_plan old plan (m ∷ ms) n =
    (IsRepeated old_plan old plan m × AreFresh old_plan old plan ms n)
    ⊎ ((IsRepeated old_plan old plan m → ⊥) × ((k : ℕ) × (n ≡ k + 1) × AreFresh old_plan old plan ms k))

-- so many moves are fresh beside what was kept; where there was no run, all are
abbrev pub FreshBeside : Option Plan → List Move → Plan → List Move → ℕ → Type 0
FreshBeside None old plan moves n = n ≡ length moves
FreshBeside (Some old_plan) old plan moves n = AreFresh old_plan old plan moves n

-- a meter rises by the fresh moves, and by no more
abbrev pub IsCharged : Running → Plan → List Move → ℕ → ℕ → Type 0
IsCharged old plan moves before after = (n : ℕ) × FreshBeside old.plan old.moves plan moves n × (after ≡ raised before n)

-- there is one such number
abbrev pub OneCount : Type 0
OneCount = (old : Option Plan) (old_moves : List Move) (plan : Plan) (moves : List Move) (a b : ℕ) →
    FreshBeside old old_moves plan moves a → FreshBeside old old_moves plan moves b → a ≡ b

-- a plan that is run again has no fresh move
abbrev pub NoneFreshAgain : Type 0
NoneFreshAgain = (plan : Plan) (old moves : List Move) (n : ℕ) → Run plan old → Run plan moves →
    FreshBeside (Some plan) old plan moves n → n ≡ 0
