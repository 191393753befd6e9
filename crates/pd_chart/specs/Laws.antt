-- What holds of the steps of the curves, and of the least margin that is drawn.
use Rattle.std.specs.Prelude.{◌≡◌, ℕ, ◌+◌, ◌<◌, ◌≤◌, List, [], ◌∷◌, map, sum}
use Rattle.pd_port.specs.declared.entry.Entry.{Entry}
use Rattle.pd_scenario.specs.Plan.{Plan, IsPlan, force}
use Rattle.pd_run.specs.Run.{Move, Run, shown}
use Rattle.pd_report.specs.LeastMargin.{IsLeastMargin, margin_at}
use Rattle.pd_report.specs.Margins.{contracts_at}
use Rattle.pd_report.specs.declared.least.Margin.{Margin}
use Rattle.pd_show.specs.Seen.{all_seen}
use Rattle.pd_chart.specs.declared.curves.Level.{Level}
use Rattle.pd_chart.specs.declared.frame.Frame.{Frame}
use Rattle.pd_chart.specs.Curves.{curves_of, margin, tightest}

-- a step tells the truth of an instant: what the budget is at its end, and what the contracts then take of it
pub record IsTrueStep (plan : Plan) (entries : List (ℕ × Entry)) (t : ℕ) (l : Level) : Type 0 where
  pub budget : l.budget ≡ force plan t
  pub contracts : sum l.powers ≡ contracts_at entries t

-- the time of the first of these steps, or else of what follows them
abbrev pub starts_at : List Level → ℕ → ℕ
starts_at [] end = end
starts_at (l ∷ ls) end = l.at

-- each step is earlier than the one after it, and true from its time up to that one's; the last of them up to a time
abbrev pub AreTrueSteps : Plan → List (ℕ × Entry) → List Level → ℕ → Type 0
AreTrueSteps plan entries [] end = Unit {0}
AreTrueSteps plan entries (l ∷ ls) end =
    (l.at < starts_at ls end) × ((t : ℕ) → l.at ≤ t → t < starts_at ls end → IsTrueStep plan entries t l)
    × AreTrueSteps plan entries ls end

-- Of the instants from a time to another one none leaves less, and none before this one leaves as little.
pub record IsLeastWithin (plan : Plan) (entries : List (ℕ × Entry)) (from to : ℕ) (least : Margin) : Type 0 where
  pub not_before : from ≤ least.at
  pub not_after : least.at ≤ to
  pub left_is : least.left ≡ margin_at plan entries least.at
  pub is_least : (t : ℕ) → from ≤ t → t ≤ to → least.left ≤ margin_at plan entries t
  pub is_first : (t : ℕ) → from ≤ t → t < least.at → least.left < margin_at plan entries t

-- what is drawn of a step as the least margin
abbrev pub least_of : Level → Margin
least_of l = record { at = l.at; left = margin l }

-- the least margin that is drawn is that of the window, and that of the run where the window is all of it
pub record DrawsLeast (plan : Plan) (entries : List (ℕ × Entry)) (f : Frame) (least : Margin) : Type 0 where
  pub of_window : IsLeastWithin plan entries f.from f.to least
  pub of_run : f.from ≡ 0 → f.to ≡ plan.end → IsLeastMargin plan entries least

-- These steps are drawn of a run: true ones from the start of the window to its end, and of them the one that leaves the least.
abbrev pub AreDrawn : Plan → List (ℕ × Entry) → Frame → List Level → Type 0
AreDrawn plan entries f [] = ⊥
AreDrawn plan entries f (l ∷ ls) =
    (l.at ≡ f.from) × AreTrueSteps plan entries (l ∷ ls) (f.to + 1) × DrawsLeast plan entries f (least_of (tightest l ls))

-- So it is in each picture of a plan's run.
abbrev pub CurvesAreTrue : Type 0
CurvesAreTrue =
    (n : ℕ) (plan : Plan) (moves : List Move) (f : Frame) → IsPlan n plan → Run plan moves → f.from ≤ f.to → f.to ≤ plan.end
    → AreDrawn plan (map shown moves) f (curves_of f plan (all_seen plan moves)).levels
