-- The bands of a lane: whether a port has a contract, and what an engineer calls the groups of states without one.
use Rattle.std.specs.Prelude.{ℕ, ◌+◌, ◌-◌, ◌==◌, ◌||◌, not, nat_lt, nat_le, Bool, if◌then◌else◌, List, [], ◌∷◌, codes}
use Rattle.pd_chart.specs.Elements.{Element}
use Rattle.pd_chart.specs.Shapes.{box_of, words_at}
use Rattle.pd_source.specs.declared.kinds.State as source
use Rattle.pd_source.specs.declared.kinds.State.TheVariants as state
use Rattle.pd_show.specs.declared.seen.Glance.{Glance}
use Rattle.pd_chart.specs.Scale.{x_of}
use Rattle.pd_draw.specs.declared.place.Place.{Place}
use Rattle.pd_draw.specs.declared.lane.Lane.{Lane}
use Rattle.pd_draw.specs.declared.phase.Phase.{Phase}
use Rattle.pd_draw.specs.declared.phase.Phase.TheVariants.{Detached, Negotiating, Contract, HardReset, Disabled}
use Rattle.pd_draw.specs.Places.{box_width}

-- the phase of each state, where there is no contract
abbrev pub phase_without : source.State → Phase
phase_without state.Off = Detached
phase_without state.HardReset = HardReset
phase_without state.HardResetReceived = HardReset
phase_without state.TransitionToDefault = HardReset
phase_without state.Disabled = Disabled
phase_without _ = Negotiating

-- the phase of a port: a contract, while it has one, and else that of its source's state
abbrev pub phase_of : Glance → Phase
phase_of port = if port.contract then Contract else phase_without port.source

abbrev pub phase_number : Phase → ℕ
phase_number Detached = 1
phase_number Negotiating = 2
phase_number Contract = 3
phase_number HardReset = 4
phase_number Disabled = 5

abbrev pub phase_name : Phase → List ℕ
phase_name Detached = codes "detached"
phase_name Negotiating = codes "negotiating"
phase_name Contract = codes "contract"
phase_name HardReset = codes "hard reset"
phase_name Disabled = codes "disabled"

-- how high a band is: another height for each phase, so that they stay apart in print
abbrev pub phase_height : Phase → ℕ
phase_height Detached = 20
phase_height Negotiating = 70
phase_height Contract = 100
phase_height HardReset = 130
phase_height Disabled = 40

-- the band of a lane's phase, up to the time of a place
unfoldable pub band_of : Place → Lane → Element
band_of p lane = box_of (phase_name lane.phase) (record {
  x = x_of p.frame lane.since;
  y = 130 - phase_height lane.phase;
  width = x_of p.frame p.at - x_of p.frame lane.since;
  height = phase_height lane.phase;
}) (phase_name lane.phase)

-- how far below the lane's top its name stands: in it, or above a band that is too low for it
abbrev pub words_down : Phase → ℕ
words_down phase = if nat_lt (phase_height phase) 60 then 120 - phase_height phase else 115

unfoldable pub band_words : Place → Lane → Element
band_words p lane =
    words_at (codes "label") (x_of p.frame lane.since + 30) (words_down lane.phase) (phase_name lane.phase)

-- there is room for its name in it
abbrev pub is_wide : Place → Lane → Bool
is_wide p lane = nat_le (x_of p.frame lane.since + box_width (phase_name lane.phase)) (x_of p.frame p.at)

abbrev pub name_elements : Place → Lane → List Element
name_elements p lane = if is_wide p lane then band_words p lane ∷ [] else []

unfoldable pub band_elements : Place → Lane → List Element
band_elements p lane = band_of p lane ∷ name_elements p lane

-- a phase that stands for less than a pixel is drawn as the one after it
abbrev pub is_narrow : Place → Lane → Bool
is_narrow p lane = nat_lt (x_of p.frame p.at) (x_of p.frame lane.since + 10)

-- the lane in a phase from the time of a place on
unfoldable pub lane_in : Place → Lane → Phase → Lane
lane_in p lane phase =
    if phase_number lane.phase == phase_number phase then lane else if is_narrow p lane then record lane { phase = phase }
    else record lane { phase = phase; since = p.at }

-- the band of the lane's phase ends, where the lane goes into another phase and that one isn't drawn in its place
abbrev pub ends_band : Place → Lane → Phase → Bool
ends_band p lane phase = not (phase_number lane.phase == phase_number phase || is_narrow p lane)

-- what is drawn then: the band of the phase that ends
unfoldable pub turn_elements : Place → Lane → Phase → List Element
turn_elements p lane phase = if ends_band p lane phase then band_elements p lane else []
