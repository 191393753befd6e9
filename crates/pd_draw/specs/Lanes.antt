-- The lanes of a run: what each move that is seen draws, and what is drawn at the end.
use Rattle.std.specs.Prelude.{ℕ, ◌-◌, ◌&&◌, nat_le, Bool, false, if◌then◌else◌, List, [], ◌∷◌, ◌++◌, replicate}
use Rattle.std.specs.Prelude.{slice_index_or, slice_set, Option, Some, None}
use Rattle.std.specs.List.{flat_map, fold}
use Rattle.pd_chart.specs.Elements.{Element, element_text}
use Rattle.pd_show.specs.declared.seen.Seen.{Seen}
use Rattle.pd_show.specs.Choices.{is_of_port}
use Rattle.pd_show.specs.Since.{start_since, told_at}
use Rattle.pd_chart.specs.declared.frame.Frame.{Frame}
use Rattle.pd_chart.specs.Chart.{ports_up}
use Rattle.pd_draw.specs.declared.lane.Lane.{Lane}
use Rattle.pd_draw.specs.declared.phase.Phase.TheVariants.{Detached}
use Rattle.pd_draw.specs.declared.place.Place.{Place}
use Rattle.pd_draw.specs.Bands.{band_elements, lane_in, phase_of, turn_elements}
use Rattle.pd_draw.specs.Marks.{Mark, lane_marked, marks_elements, marks_of}

-- the lanes as they stand, the time of the last line that a whole show has told, and the text of what has been drawn in each lane
pub record LanesData : Type 0 where
  pub lanes : List Lane
  pub before : ℕ
  pub texts : List (List ℕ)

-- a lane before any move
abbrev pub lane_start : ℕ → Lane
lane_start from = record { phase = Detached; since = from; rooms = replicate 5 0; nexts = replicate 5 0; marked = false }

-- stands where there is no lane
abbrev pub no_lane : Lane
no_lane = record { phase = Detached; since = 0; rooms = []; nexts = []; marked = false }

-- the lane of a port, the ports being numbered from 1
abbrev pub lane_at : List Lane → ℕ → Lane
lane_at lanes port = slice_index_or lanes (port - 1) no_lane

-- where a move stands, after a line of this time
abbrev pub place_of : Frame → ℕ → Seen → Place
place_of f before seen = record {
  frame = f;
  port = seen.port;
  at = seen.entry.at;
  since = start_since before seen;
}

-- a move stands in a lane: the window isn't over, and the port is the one that is chosen, or all are
abbrev pub has_place : Frame → Option ℕ → Seen → Bool
has_place f chosen seen = nat_le seen.entry.at f.to && is_of_port chosen seen.port

-- the marks of a move, where the window has begun
abbrev pub marks_shown : Frame → Seen → List Mark
marks_shown f seen = if nat_le f.from seen.entry.at then marks_of seen else []

-- the lane after a move: its phase, and then its marks
abbrev pub lane_turned : Place → Lane → Seen → Lane
lane_turned p lane seen = lane_in p lane (phase_of seen.after)

unfoldable pub lane_after : Place → Lane → Seen → Lane
lane_after p lane seen = lane_marked p (lane_turned p lane seen) (marks_shown p.frame seen)

-- what a move draws
unfoldable pub move_elements : Place → Lane → Seen → List Element
move_elements p lane seen =
    turn_elements p lane (phase_of seen.after) ++ marks_elements p (lane_turned p lane seen) (marks_shown p.frame seen)

-- the lanes after a move, and what is drawn of it, after a line of this time
unfoldable pub lanes_after : Frame → Option ℕ → ℕ → List Lane → Seen → List Lane
lanes_after f chosen before lanes seen =
    if has_place f chosen seen
    then slice_set lanes (seen.port - 1) (lane_after (place_of f before seen) (lane_at lanes seen.port) seen) else lanes

-- what stands in the lane of a port, the ports being numbered from 1
abbrev pub drawn_at : {A : Type 0} → List (List A) → ℕ → List A
drawn_at all port = slice_index_or all (port - 1) []

-- what has been drawn in each lane, after a move that draws this
abbrev pub with_drawn : {A : Type 0} → List (List A) → ℕ → List A → List (List A)
with_drawn all port more = slice_set all (port - 1) (drawn_at all port ++ more)

unfoldable pub elements_after : Frame → Option ℕ → ℕ → List Lane → List (List Element) → Seen → List (List Element)
elements_after f chosen before lanes all seen =
    if has_place f chosen seen
    then with_drawn all seen.port (move_elements (place_of f before seen) (lane_at lanes seen.port) seen) else all

-- and its text
unfoldable pub texts_after : Frame → Option ℕ → ℕ → List Lane → List (List ℕ) → Seen → List (List ℕ)
texts_after f chosen before lanes texts seen =
    if has_place f chosen seen
    then with_drawn texts seen.port (flat_map element_text (move_elements (place_of f before seen) (lane_at lanes seen.port) seen))
    else texts

-- the lanes, the time of the last line that a whole show has told, and all that has been drawn in each lane
pub record Drawn : Type 0 where
  pub lanes : List Lane
  pub before : ℕ
  pub elements : List (List Element)

abbrev pub drawn_after : Frame → Option ℕ → Drawn → Seen → Drawn
drawn_after f chosen d seen = record {
  lanes = lanes_after f chosen d.before d.lanes seen;
  before = told_at d.before seen;
  elements = elements_after f chosen d.before d.lanes d.elements seen;
}

abbrev pub lanes_start : Frame → List Lane
lanes_start f = replicate 8 (lane_start f.from)

abbrev pub drawn_start : Frame → Drawn
drawn_start f = record { lanes = lanes_start f; before = 0; elements = replicate 8 [] }

-- what the moves of a run have drawn
abbrev pub drawn_of : Frame → Option ℕ → List Seen → Drawn
drawn_of f chosen seens = fold (drawn_after f chosen) (drawn_start f) seens

-- the ports that have lanes
abbrev pub shown_ports : ℕ → Option ℕ → List ℕ
shown_ports n None = ports_up n
shown_ports n (Some chosen) = if nat_le 1 chosen && nat_le chosen 8 then chosen ∷ [] else []

-- the end of the window in the lane of a port
abbrev pub end_of : Frame → ℕ → Place
end_of f port = record { frame = f; port = port; at = f.to; since = 0 }

-- the band that stands at the end of the window
abbrev pub last_elements : Frame → List Lane → ℕ → List Element
last_elements f lanes port = band_elements (end_of f port) (lane_at lanes port)

-- how high a lane is: where nothing is marked, one line
abbrev pub lane_height : Lane → ℕ
lane_height lane = if lane.marked then 940 else 170
