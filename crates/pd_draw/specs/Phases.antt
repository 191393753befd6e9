-- What holds of the phases of a lane and of its bands: they are those of the port's record.
use Rattle.std.specs.Prelude.{◌≡◌, ◌≢◌, ◌↔◌, ◌⊎◌, ◌+◌, ◌<◌, ◌≤◌, ℕ, true, List, [], ◌∷◌, ◌++◌, map, All, Option, IsSome}
use Rattle.pd_scenario.specs.Plan.{Plan, IsPlan, count, settings_of}
use Rattle.pd_run.specs.Laws.{EndsBetween}
use Rattle.pd_run.specs.Run.{Move, Run, shown, standing}
use Rattle.pd_watch.specs.Watch.{after_steps, all_at_rest}
use Rattle.pd_show.specs.declared.seen.Seen.{Seen}
use Rattle.pd_show.specs.Choices.{is_of_port}
use Rattle.pd_show.specs.Seen.{all_seen, glance, seen_of}
use Rattle.pd_chart.specs.declared.frame.Frame.{Frame}
use Rattle.pd_chart.specs.Scale.{x_of}
use Rattle.pd_draw.specs.declared.lane.Lane.{Lane}
use Rattle.pd_draw.specs.declared.phase.Phase.{Phase}
use Rattle.pd_draw.specs.declared.phase.Phase.TheVariants.{Contract}
use Rattle.pd_draw.specs.declared.place.Place.{Place}
use Rattle.pd_draw.specs.Bands.{ends_band, phase_number, phase_of}
use Rattle.pd_draw.specs.Lanes.{drawn_of, end_of, lane_at, place_of}

-- the phase of a port after these moves, the ports being numbered from 0 here
abbrev pub phase_after : Plan → List Move → ℕ → Phase
phase_after plan past p = phase_of (glance (settings_of plan p) (standing plan past p).state)

-- a port's lane after these moves
abbrev pub lane_then : Plan → Frame → Option ℕ → List Move → ℕ → Lane
lane_then plan f chosen past p = lane_at (drawn_of f chosen (all_seen plan past)).lanes (p + 1)

-- ---- phases

-- the phase is that of the port, and it is `contract` exactly while the port's record has a contract
pub record PhaseStands (plan : Plan) (past : List Move) (p : ℕ) (phase : Phase) : Type 0 where
  pub is_of_port : phase ≡ phase_after plan past p
  pub has_contract : (phase ≡ Contract) ↔ IsSome (standing plan past p).state.source.contract

-- So is the phase of each lane that is drawn of a plan's run, after each of the moves up to the window's end.
abbrev pub PhasesStand : Type 0
PhasesStand =
    (n : ℕ) (plan : Plan) (past later : List Move) (f : Frame) (chosen : Option ℕ) (p : ℕ) → IsPlan n plan → Run plan (past ++ later)
    → All (λ m. m.due.time ≤ f.to) past → p < count plan → is_of_port chosen (p + 1) ≡ true
    → PhaseStands plan past p (lane_then plan f chosen past p).phase

-- ---- bands

-- a band: its phase, and the times at which it begins and ends
pub record Band : Type 0 where
  pub phase : Phase
  pub from : ℕ
  pub to : ℕ

-- the band of a lane's phase, up to the time of a place
abbrev pub band : Place → Lane → Band
band place lane = record { phase = lane.phase; from = lane.since; to = place.at }

-- a move of the port at a time leads from one phase into another
pub record Turns (plan : Plan) (moves : List Move) (p at : ℕ) (old new : Phase) : Type 0 where
  pub earlier : List Move
  pub move : Move
  pub later : List Move
  pub moves_are : moves ≡ earlier ++ move ∷ later
  pub of_port : move.port ≡ p
  pub on_time : move.due.time ≡ at
  pub left : phase_after plan earlier p ≡ old
  pub reached : phase_after plan (earlier ++ move ∷ []) p ≡ new
  pub is_another : phase_number old ≢ phase_number new

-- A band of a port's lane tells the truth: the port goes into its phase by a move at a time less than a pixel after the band begins, or
-- has been in it before the window; it is in this phase at the end of each instant from then to the band's end; and there a move leads
-- into another phase, or the window ends. What stands in less than a pixel before that time are other phases; where the band begins, a
-- move leads into the first of them.
pub record IsTrueBand (plan : Plan) (moves : List Move) (f : Frame) (p : ℕ) (b : Band) : Type 0 where
  pub entered : ℕ
  pub enters : (entered ≡ f.from) ⊎ ((old : Phase) × Turns plan moves p entered old b.phase)
  pub begins : (b.from ≡ f.from) ⊎ ((old : Phase) × (new : Phase) × Turns plan moves p b.from old new)
  pub not_before : b.from ≤ entered
  pub near : x_of f entered < x_of f b.from + 10
  pub stands : (done rest : List Move) (t : ℕ) → moves ≡ done ++ rest → EndsBetween t done rest → entered ≤ t → t < b.to
      → phase_after plan done p ≡ b.phase
  pub ends : (b.to ≡ f.to) ⊎ ((new : Phase) × Turns plan moves p b.to b.phase new)

-- what is seen of a move after these
abbrev pub seen_then : Plan → List Move → Move → Seen
seen_then plan past m = seen_of plan (after_steps (all_at_rest (count plan)) (map shown past)) m

-- where it stands
abbrev pub place_then : Plan → Frame → Option ℕ → List Move → Move → Place
place_then plan f chosen past m = place_of f (drawn_of f chosen (all_seen plan past)).before (seen_then plan past m)

-- each band that a move ends is true, and so is the one that stands at the window's end
pub record HasTrueBands (plan : Plan) (moves : List Move) (f : Frame) (chosen : Option ℕ) (p : ℕ) : Type 0 where
  pub ended : (past later : List Move) (m : Move) → moves ≡ past ++ m ∷ later → m.port ≡ p → m.due.time ≤ f.to
      → ends_band (place_then plan f chosen past m) (lane_then plan f chosen past p) (phase_of (seen_then plan past m).after) ≡ true
      → IsTrueBand plan moves f p (band (place_then plan f chosen past m) (lane_then plan f chosen past p))
  pub last : IsTrueBand plan moves f p (band (end_of f (p + 1)) (lane_then plan f chosen moves p))

-- So it is in each lane that is drawn of a plan's run.
abbrev pub BandsAreTrue : Type 0
BandsAreTrue =
    (n : ℕ) (plan : Plan) (moves : List Move) (f : Frame) (chosen : Option ℕ) (p : ℕ) → IsPlan n plan → Run plan moves → p < count plan
    → is_of_port chosen (p + 1) ≡ true → HasTrueBands plan moves f chosen p
