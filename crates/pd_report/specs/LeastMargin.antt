-- The least that the contracts leave of the shared budget.
use Rattle.std.specs.Prelude.{◌≡◌, ℕ, ◌+◌, ◌-◌, ◌<◌, ◌≤◌, nat_lt, if◌then◌else◌, List, Option, Some, None}
use Rattle.pd_port.specs.declared.entry.Entry.{Entry}
use Rattle.pd_scenario.specs.Plan.{Plan, force}
use Rattle.pd_report.specs.Margins.{contracts_at}
use Rattle.pd_report.specs.declared.least.Margin.{Margin}
use Rattle.pd_report.specs.declared.walk.Standing.{Standing}

-- what the contracts of all ports leave of the budget at the end of an instant
abbrev pub margin_at : Plan → List (ℕ × Entry) → ℕ → ℕ
margin_at plan moves t = force plan t - contracts_at moves t

-- of what stands then
abbrev pub margin_of : Standing → ℕ
margin_of s = s.budget - s.contracts

-- Of the instants before a time, none leaves less, and none before this one leaves as little.
pub record IsLeastBefore (plan : Plan) (moves : List (ℕ × Entry)) (time : ℕ) (least : Margin) : Type 0 where
  pub soon : least.at < time
  pub left_is : least.left ≡ margin_at plan moves least.at
  pub is_least : (t : ℕ) → t < time → least.left ≤ margin_at plan moves t
  pub is_first : (t : ℕ) → t < least.at → least.left < margin_at plan moves t

-- the least that is left at the end of an instant of the run, up to its end, and the first of these instants
abbrev pub IsLeastMargin : Plan → List (ℕ × Entry) → Margin → Type 0
IsLeastMargin plan moves least = IsLeastBefore plan moves (plan.end + 1) least

-- the least so far; before the instant 0 there is none
abbrev pub LeastSoFar : Plan → List (ℕ × Entry) → ℕ → Option Margin → Type 0
LeastSoFar plan moves time None = time ≡ 0
LeastSoFar plan moves time (Some least) = IsLeastBefore plan moves time least

-- the lesser of two, and the first where both are the same
abbrev pub lesser : Option Margin → Margin → Margin
lesser None m = m
lesser (Some least) m = if nat_lt m.left least.left then m else least
