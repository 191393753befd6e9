-- The chart of a picture, and the picture's size.
use Rattle.std.specs.Prelude.{ℕ, ◌+◌, ◌-◌, ◌*◌, ◌/◌, min, max, Bool, List, [], ◌∷◌, ◌++◌, map, codes, decimal}
use Rattle.std.specs.List.{flat_map}
use Rattle.pd_scenario.specs.Plan.{Plan}
use Rattle.pd_chart.specs.Elements.{Attribute, Element, element_text}
use Rattle.pd_chart.specs.Shapes.{named, style_of}
use Rattle.pd_chart.specs.declared.curves.Level.{Level}
use Rattle.pd_chart.specs.declared.frame.Frame.{Frame}
use Rattle.pd_chart.specs.declared.look.Look.{Look}
use Rattle.pd_chart.specs.Curves.{greatest, tightest}
use Rattle.pd_chart.specs.Chart.{area_of, budget_of, held_ports, key_of, margin_marks, margin_words, names_of, outline_of, ports_down}
use Rattle.pd_chart.specs.Chart.{ports_up, power_tick, power_ticks, time_tick, time_ticks}

-- The window: up to the end of the plan, and not empty; the width is 1,000 to 10,000 pixels, of which the margins take 110.
unfoldable pub frame_of : Plan → Look → Frame
frame_of plan look = record {
  from = min look.from (min look.to plan.end);
  to = min look.to plan.end;
  width = min 10000 (max 1000 look.width) * 10 - 1100;
}

-- how far up the chart reaches: to the greatest budget, which is at most a kilowatt
abbrev pub top_of : List Level → ℕ
top_of levels = min 1000000000 (greatest levels)

-- the width of the picture, in tenths of a pixel
abbrev pub whole_width : Frame → ℕ
whole_width f = f.width + 1100

-- the picture's size in pixels, and in the tenths in which all places are
unfoldable pub head_of : Frame → ℕ → List Attribute
head_of f height =
    named (codes "xmlns") (codes "http://www.w3.org/2000/svg")
    ∷ named (codes "width") (decimal (whole_width f / 10))
    ∷ named (codes "height") (decimal (height / 10))
    ∷ named (codes "viewBox") (codes "0 0 " ++ (decimal (whole_width f) ++ (32 ∷ decimal height))) ∷ []

-- how the classes look: the colours of Okabe and Ito, which stay apart for who doesn't see all colours, and darker ones of them for
-- the lines of the holds, which are seen on their ports' colours
unfoldable pub rules : List ℕ
rules =
    codes "svg{background:#fff;font:100px sans-serif}.head{font-size:130px}.middle{text-anchor:middle}.end{text-anchor:end}"
    ++ codes "path{fill:none;stroke-width:10}.grid{stroke:#ddd;stroke-width:5}.budget{stroke:#000;stroke-width:20}"
    ++ codes ".least{stroke:#c00;stroke-width:50;stroke-linecap:round}.p1,.p2,.p3,.p4,.p5,.p6,.p7,.p8{stroke:#000;stroke-width:5}"
    ++ codes ".p1{fill:#e69f00}.p2{fill:#56b4e9}.p3{fill:#009e73}.p4{fill:#f0e442}.p5{fill:#0072b2}.p6{fill:#d55e00}.p7{fill:#cc79a7}"
    ++ codes ".p8{fill:#999}.hold{stroke:#444;stroke-width:12;stroke-dasharray:40 15}.h1{stroke:#7a5400}.h2{stroke:#1c5f8a}"
    ++ codes ".h3{stroke:#00402f}.h4{stroke:#7d7500}.h5{stroke:#00304d}.h6{stroke:#6e3000}.h7{stroke:#7a2f58}.h8{stroke:#444}"

-- the step that leaves the least of the budget
abbrev pub least_elements : Frame → ℕ → List Level → List Element
least_elements f top [] = []
least_elements f top (l ∷ ls) = margin_marks f top (tightest l ls) ++ margin_words f (tightest l ls)

-- the chart: what the colours and the lines stand for, its title, the axes, the contracts from the last port to the first, each over the
-- one before, the outlines of the holds, the budget, and the least margin; the lines of times go down to the picture's end
abbrev pub elements_of : Frame → ℕ → ℕ → Bool → List Level → List Element
elements_of f bottom n holds levels =
    style_of rules ∷ (flat_map key_of (ports_up n) ++ (names_of f n holds ++ (flat_map (time_tick f bottom) time_ticks
    ++ (flat_map (power_tick f (top_of levels)) power_ticks ++ (map (area_of f (top_of levels) levels) (ports_down n)
    ++ (map (outline_of f (top_of levels) levels) (held_ports n holds)
    ++ (budget_of f (top_of levels) levels ∷ least_elements f (top_of levels) levels)))))))

-- the texts of what the colours and the lines stand for and the title, of the axes, and of the curves
unfoldable pub keys_text : Frame → ℕ → Bool → List ℕ
keys_text f n holds = flat_map (λ port. flat_map element_text (key_of port)) (ports_up n) ++ flat_map element_text (names_of f n holds)

unfoldable pub axes_text : Frame → ℕ → List Level → List ℕ
axes_text f bottom levels =
    flat_map (λ k. flat_map element_text (time_tick f bottom k)) time_ticks
    ++ flat_map (λ k. flat_map element_text (power_tick f (top_of levels) k)) power_ticks

unfoldable pub stacks_text : Frame → ℕ → List Level → List ℕ → List ℕ → List ℕ
stacks_text f top levels ports held =
    flat_map (λ port. element_text (area_of f top levels port)) ports
    ++ flat_map (λ port. element_text (outline_of f top levels port)) held

unfoldable pub curves_text : Frame → ℕ → Bool → List Level → List ℕ
curves_text f n holds levels =
    stacks_text f (top_of levels) levels (ports_down n) (held_ports n holds)
    ++ (element_text (budget_of f (top_of levels) levels) ++ flat_map element_text (least_elements f (top_of levels) levels))
