-- The picture of a run: the chart, and the lanes below it.
use Rattle.std.specs.Prelude.{◌≡◌, ℕ, ◌+◌, ◌-◌, ◌*◌, Bool, true, false, List, [], ◌∷◌, ◌++◌, codes, Option}
use Rattle.std.specs.List.{flat_map}
use Rattle.pd_scenario.specs.Plan.{Plan, count}
use Rattle.pd_run.specs.Run.{Move}
use Rattle.pd_run.specs.Shown.{SafeRun}
use Rattle.pd_chart.specs.Elements.{Drawing, Element, Group, attribute_text, drawing_text, element_text, group_attribute}
use Rattle.pd_chart.specs.Shapes.{box_of, style_of, words_at}
use Rattle.pd_show.specs.declared.seen.Seen.{Seen}
use Rattle.pd_show.specs.Seen.{all_seen}
use Rattle.pd_chart.specs.declared.curves.Level.{Level}
use Rattle.pd_chart.specs.declared.frame.Frame.{Frame}
use Rattle.pd_chart.specs.declared.look.Look.{Look}
use Rattle.pd_chart.specs.Chart.{port_name}
use Rattle.pd_chart.specs.Curves.{curves_of}
use Rattle.pd_chart.specs.Picture.{elements_of, frame_of, head_of}
use Rattle.pd_chart.specs.Scale.{right_of}
use Rattle.pd_draw.specs.declared.lane.Lane.{Lane}
use Rattle.pd_draw.specs.declared.phase.Phase.{Phase}
use Rattle.pd_draw.specs.declared.phase.Phase.TheVariants.{Detached, Negotiating, Contract, HardReset, Disabled}
use Rattle.pd_draw.specs.Bands.{phase_height, phase_name, phase_number}
use Rattle.pd_draw.specs.Lanes.{Drawn, drawn_at, drawn_of, lane_at, lane_height, last_elements, shown_ports}

-- how the lanes look: the colours of Okabe and Ito; each phase and each row has a place or a height of its own too
unfoldable pub lane_rules : List ℕ
lane_rules =
    codes "text{paint-order:stroke;stroke:#fff;stroke-width:20}.label,.row{stroke:none;font-family:monospace;pointer-events:none}"
    ++ codes ".label{font-size:90px}.row{text-anchor:end}.detached{fill:#ccc}.negotiating{fill:#b3dcf5}.contract{fill:#99d8c7}"
    ++ codes ".hard{fill:#ee9e66}.disabled{fill:#bbb}.event{stroke:#0072b2}.change{stroke:#009e73}.fault{stroke:#c00;stroke-width:20}"
    ++ codes ".src{stroke:#000;fill:#000}.snk{stroke:#0072b2;fill:#0072b2}.cbl{stroke:#cc79a7;fill:#cc79a7}"
    ++ codes ".broken{stroke:#c00;stroke-width:14;fill:#fbb}.box{fill:#fff;stroke:none}"
    ++ codes ".broken.box{stroke:#c00;stroke-width:8;stroke-dasharray:30 20}"

abbrev pub phases : List Phase
phases = Detached ∷ Negotiating ∷ Contract ∷ HardReset ∷ Disabled ∷ []

abbrev pub phase_left : Phase → ℕ
phase_left phase = 700 + 1500 * (phase_number phase - 1)

-- what the band of a phase looks like
unfoldable pub phase_key : Phase → List Element
phase_key phase =
    box_of (phase_name phase) (record { x = phase_left phase; y = 3910 - phase_height phase; width = 200; height = phase_height phase }) []
    ∷ words_at (codes "label") (phase_left phase + 230) 3890 (phase_name phase) ∷ []

-- the names of a lane's rows
abbrev pub row_words : ℕ → List ℕ → Element
row_words down words = words_at (codes "row") 660 down words

-- where nothing is marked, the port's alone
abbrev pub rows_of : Bool → List Element
rows_of true =
    row_words 240 (codes "events") ∷ row_words 380 (codes "contracts") ∷ row_words 520 (codes "faults") ∷ row_words 660 (codes "SOP")
    ∷ row_words 800 (codes "SOP'") ∷ []
rows_of false = []

unfoldable pub names_of : Bool → ℕ → List Element
names_of marked port = row_words 105 (port_name port) ∷ rows_of marked

-- what the packets of a side look like, at such an x
unfoldable pub sender_key : ℕ → List ℕ → List Element
sender_key left side =
    box_of side (record { x = left; y = 3845; width = 120; height = 35 }) [] ∷ words_at (codes "label") (left + 150) 3890 side ∷ []

abbrev pub sender_keys : List Element
sender_keys = sender_key 8200 (codes "src") ++ (sender_key 8650 (codes "snk") ++ sender_key 9100 (codes "cbl"))

-- whose run it is, where that is said: it ends where the window does, beside the title
abbrev pub name_elements : Frame → List ℕ → List Element
name_elements f [] = []
name_elements f (x ∷ xs) = words_at (codes "head end") (right_of f) 190 (x ∷ xs) ∷ []

-- what stands before the lanes: how they look, the phases, who sends, and whose run it is
abbrev pub keys : Frame → List ℕ → List Element
keys f name = style_of lane_rules ∷ (flat_map phase_key phases ++ (sender_keys ++ name_elements f name))

-- what stands in the lane of a port: the rows' names, what the moves have drawn, and the last band
abbrev pub lane_elements : Frame → Drawn → ℕ → List Element
lane_elements f d port =
    names_of (lane_at d.lanes port).marked port ++ (drawn_at d.elements port ++ last_elements f d.lanes port)

-- the lanes of some ports, one below the other, from such a place down
abbrev pub groups_of : Frame → Drawn → ℕ → List ℕ → List Group
groups_of f d down [] = []
groups_of f d down (port ∷ ports) =
    record { down = down; elements = lane_elements f d port } ∷ groups_of f d (down + lane_height (lane_at d.lanes port)) ports

-- where they end
abbrev pub end_after : List Lane → ℕ → List ℕ → ℕ
end_after lanes down [] = down
end_after lanes down (port ∷ ports) = end_after lanes (down + lane_height (lane_at lanes port)) ports

-- the lanes begin below the chart
abbrev pub bottom_of : List Lane → ℕ → Option ℕ → ℕ
bottom_of lanes n chosen = end_after lanes 4000 (shown_ports n chosen)

-- the text of a lane where the moves have drawn these, and of some lanes
unfoldable pub lane_text : Frame → List Lane → List (List ℕ) → ℕ → List ℕ
lane_text f lanes texts port =
    flat_map element_text (names_of (lane_at lanes port).marked port)
    ++ (drawn_at texts port ++ flat_map element_text (last_elements f lanes port))

unfoldable pub placed_text : ℕ → List ℕ → List ℕ
placed_text down text = codes "<g" ++ (attribute_text (group_attribute down) ++ (codes ">\n" ++ (text ++ codes "</g>\n")))

abbrev pub lanes_text : Frame → List Lane → List (List ℕ) → ℕ → List ℕ → List ℕ
lanes_text f lanes texts down [] = []
lanes_text f lanes texts down (port ∷ ports) =
    placed_text down (lane_text f lanes texts port) ++ lanes_text f lanes texts (down + lane_height (lane_at lanes port)) ports

-- the picture of the steps of n ports and of their lanes, with whose run it is
unfoldable pub picture : Frame → ℕ → Look → List ℕ → List Level → Drawn → Drawing
picture f n look name levels d = record {
  attributes = head_of f (bottom_of d.lanes n look.port);
  elements = elements_of f (bottom_of d.lanes n look.port) n look.holds levels ++ keys f name;
  groups = groups_of f d 4000 (shown_ports n look.port);
}

-- the text of the picture of what is seen of a plan's moves
abbrev pub picture_text : Plan → Look → List ℕ → List Seen → List ℕ
picture_text plan look name seens =
    drawing_text (picture (frame_of plan look) (count plan) look name (curves_of (frame_of plan look) plan seens).levels
    (drawn_of (frame_of plan look) look.port seens))

-- the text is that of the picture of the plan's run, which is safe, with whose run it is
pub record DrewRun (plan : Plan) (look : Look) (name text : List ℕ) : Type 0 where
  pub moves : List Move
  pub safe : SafeRun plan moves
  pub text_is : text ≡ picture_text plan look name (all_seen plan moves)
