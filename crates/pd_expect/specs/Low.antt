-- Expectations of a margin over a time: where it is first too little.
use Rattle.std.specs.Prelude.{◌≡◌, ℕ, ◌<◌, ◌≤◌, MatchOption, min, nat_le, nat_lt, Bool, true, false, not, if◌then◌else◌, Option, Some, None}
use Rattle.pd_scenario.specs.Plan.{Plan}
use Rattle.pd_report.specs.LeastMargin.{margin_at}
use Rattle.pd_report.specs.declared.least.Margin.{Margin}
use Rattle.pd_expect.specs.OverTime.{Moves}
use Rattle.pd_expect.specs.declared.low.Low.{Low}

-- so much is left of the budget at the end of the instant
abbrev pub is_enough : Plan → Moves → ℕ → ℕ → Bool
is_enough plan moves wanted t = nat_le wanted (margin_at plan moves t)

-- the first instant of these at which it is enough, or at which it isn't
pub record IsFirstSuch (plan : Plan) (moves : Moves) (wanted : ℕ) (enough : Bool) (from to at : ℕ) : Type 0 where
  pub after_start : from ≤ at
  pub before_end : at ≤ to
  pub such_here : is_enough plan moves wanted at ≡ enough
  pub other_before : (t : ℕ) → from ≤ t → t < at → is_enough plan moves wanted t ≡ not enough

-- or there is none
abbrev pub IsFirstOf : Plan → Moves → ℕ → Bool → ℕ → ℕ → Option ℕ → Type 0
IsFirstOf plan moves wanted enough from to None = (t : ℕ) → from ≤ t → t ≤ to → is_enough plan moves wanted t ≡ not enough
IsFirstOf plan moves wanted enough from to (Some at) = IsFirstSuch plan moves wanted enough from to at

-- the least that is left from one instant to another, and the first of these instants at which it is
pub record IsLeastOf (plan : Plan) (moves : Moves) (from to : ℕ) (least : Margin) : Type 0 where
  pub after_start : from ≤ least.at
  pub before_end : least.at ≤ to
  pub left_is : least.left ≡ margin_at plan moves least.at
  pub is_least : (t : ℕ) → from ≤ t → t ≤ to → least.left ≤ margin_at plan moves t
  pub is_first : (t : ℕ) → from ≤ t → t < least.at → least.left < margin_at plan moves t

-- where too little is left first, when there is enough again, and the least of all that time
pub record IsLow (plan : Plan) (moves : Moves) (wanted from to : ℕ) (low : Low) : Type 0 where
  pub first_is : IsFirstSuch plan moves wanted false from to low.at
  pub until_is : IsFirstOf plan moves wanted true low.at plan.end low.until
  pub least_is : IsLeastOf plan moves from to low.least

-- from one instant to another enough is left at the end of each; or this is where it isn't
abbrev pub IsFirstLow : Plan → Moves → ℕ → ℕ → ℕ → Option Low → Type 0
IsFirstLow plan moves wanted from to None = (t : ℕ) → from ≤ t → t ≤ to → is_enough plan moves wanted t ≡ true
IsFirstLow plan moves wanted from to (Some low) = IsLow plan moves wanted from to low

-- the sooner of two times, of which either may be none
abbrev pub sooner : Option ℕ → Option ℕ → Option ℕ
sooner (Some first) (Some second) = Some (min first second)
sooner (Some first) None = Some first
sooner None second = second

-- the soonest time after an instant, of one time more
abbrev pub soonest_with : ℕ → Option ℕ → ℕ → Option ℕ
soonest_with at soonest time = if nat_lt at time then sooner soonest (Some time) else soonest

-- the lesser of two margins, and the first where both are the same
abbrev pub lesser_of : Margin → Margin → Margin
lesser_of least other = if nat_lt other.left least.left then other else least

-- the margin stays as it is at an instant to the end of all time; or up to a later one
abbrev pub StaysTo : Plan → Moves → ℕ → Option ℕ → Type 0
StaysTo plan moves at next =
    MatchOption next ((t : ℕ) → at ≤ t → margin_at plan moves t ≡ margin_at plan moves at)
    (λ later. (at < later) × ((t : ℕ) → at ≤ t → t < later → margin_at plan moves t ≡ margin_at plan moves at))
