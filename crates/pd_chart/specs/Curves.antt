-- The steps of the curves: what the budget is, what the contracts take of it, and what the ports hold of it, from when on.
use Rattle.std.specs.Prelude.{ℕ, ◌-◌, ◌==◌, ◌&&◌, ◌||◌, not, nat_le, nat_lt, max, Bool, if◌then◌else◌, List, [], ◌∷◌, ◌++◌}
use Rattle.std.specs.Prelude.{length, take, map, replicate, slice_set, sum, is_some}
use Rattle.std.specs.List.{fold}
use Rattle.pd_port.specs.Happens.{is_budget}
use Rattle.pd_scenario.specs.Plan.{Plan, force, settings_of}
use Rattle.pd_setup.specs.Settings.{floor_of}
use Rattle.pd_report.specs.Walk.{noted}
use Rattle.pd_show.specs.declared.seen.Seen.{Seen}
use Rattle.pd_chart.specs.declared.curves.Level.{Level}
use Rattle.pd_chart.specs.declared.frame.Frame.{Frame}

-- the powers of the ports' contracts, what the ports hold, the time of the last step, and the steps
pub record CurvesData : Type 0 where
  pub powers : List ℕ
  pub holds : List ℕ
  pub at : ℕ
  pub levels : List Level

-- what the port holds is another after the move than before it
abbrev pub changes_hold : Seen → Bool
changes_hold seen = not (seen.before.hold == seen.after.hold)

-- what the ports hold after a move
abbrev pub held : List ℕ → Seen → List ℕ
held holds seen = slice_set holds (seen.port - 1) seen.after.hold

-- a step: a contract, a hold or the budget changes, and the window isn't over
abbrev pub has_level : Frame → Seen → Bool
has_level f seen =
    nat_le seen.entry.at f.to && (is_some seen.entry.contract || changes_hold seen || is_budget seen.entry.due.what)

-- one more step; of those of one instant the last one stands
abbrev pub with_level : CurvesData → Level → CurvesData
with_level c level = record {
  powers = level.powers;
  holds = level.holds;
  at = level.at;
  levels = take (if c.at == level.at then length c.levels - 1 else length c.levels) c.levels ++ level ∷ [];
}

-- the step of a move; what was before the window stands at its start
abbrev pub level_of : Frame → CurvesData → Seen → Level
level_of f c seen = record {
  at = max f.from seen.entry.at;
  budget = seen.budget;
  powers = noted c.powers seen.port seen.entry.contract;
  holds = held c.holds seen;
}

-- the curves after one more move
unfoldable pub curves_after : Frame → CurvesData → Seen → CurvesData
curves_after f c seen =
    if has_level f seen then with_level c (level_of f c seen)
    else record c { powers = noted c.powers seen.port seen.entry.contract; holds = held c.holds seen }

-- no contract
abbrev pub no_powers : List ℕ
no_powers = replicate 8 0

-- the floor of a port, the ports being numbered from 1; there is none where there is no port
abbrev pub floor_on : Plan → ℕ → ℕ
floor_on plan port = floor_of (settings_of plan (port - 1))

-- the floors of eight ports
abbrev pub floors : Plan → List ℕ
floors plan = map (floor_on plan) (1 ∷ 2 ∷ 3 ∷ 4 ∷ 5 ∷ 6 ∷ 7 ∷ 8 ∷ [])

-- at the start there is no contract, and each port holds its floor
unfoldable pub curves_start : Frame → Plan → CurvesData
curves_start f plan = record {
  powers = no_powers;
  holds = floors plan;
  at = f.from;
  levels = record { at = f.from; budget = force plan f.from; powers = no_powers; holds = floors plan } ∷ [];
}

-- the curves of what is seen of a plan's moves
abbrev pub curves_of : Frame → Plan → List Seen → CurvesData
curves_of f plan seens = fold (curves_after f) (curves_start f plan) seens

-- what a step leaves of the budget
abbrev pub margin : Level → ℕ
margin l = l.budget - sum l.powers

-- the one of two steps that leaves less, and the first where both leave as much
abbrev pub tighter : Level → Level → Level
tighter a b = if nat_lt (margin b) (margin a) then b else a

-- the step that leaves the least
abbrev pub tightest : Level → List Level → Level
tightest first levels = fold tighter first levels

-- the greatest budget
abbrev pub greatest : List Level → ℕ
greatest levels = fold (λ top l. max top l.budget) 0 levels
