-- The chart of the budget, of the contracts and of the holds.
use Rattle.std.specs.Prelude.{ℕ, ◌+◌, ◌-◌, ◌*◌, nat_le, Bool, true, false, List, [], ◌∷◌, ◌++◌, take, drop, sum, codes}
use Rattle.std.specs.Prelude.{if◌then◌else◌, decimal, slice_index}
use Rattle.std.specs.List.{flat_map}
use Rattle.pd_chart.specs.Elements.{Element}
use Rattle.pd_chart.specs.Shapes.{box_of, path_of, words_at}
use Rattle.pd_chart.specs.Amounts.{number_in, seconds_name}
use Rattle.pd_chart.specs.declared.amounts.Prefix.TheVariants.{Whole}
use Rattle.pd_chart.specs.declared.curves.Curve.{Curve}
use Rattle.pd_chart.specs.declared.curves.Curve.TheVariants.{Budget, Contracts, Holds}
use Rattle.pd_chart.specs.declared.curves.Level.{Level}
use Rattle.pd_chart.specs.declared.frame.Frame.{Frame}
use Rattle.pd_chart.specs.Curves.{margin}
use Rattle.pd_chart.specs.Scale.{right_of, x_of, y_of}
use Rattle.pd_chart.specs.Ticks.{is_inside, power_step, prefix_of, time_of}

-- the value of a curve at a step: the budget, what the contracts of the first ports take of it, or what a port holds of it, upon the
-- contracts of those before it
abbrev pub value_of : Curve → Level → ℕ
value_of Budget l = l.budget
value_of (Contracts k) l = sum (take k l.powers)
value_of (Holds k) l = sum (take (k - 1) l.powers) + slice_index l.holds (k - 1)

-- a step: along to its time, and then up or down to its value
unfoldable pub step_text : Frame → ℕ → Curve → Level → List ℕ
step_text f top curve l =
    72 ∷ (decimal (x_of f l.at) ++ (86 ∷ decimal (y_of top (value_of curve l))))

-- the area under the contracts is closed
abbrev pub closing : Curve → List ℕ
closing Budget = []
closing (Contracts k) = codes "V3500Z"
closing (Holds k) = []

-- the path of a curve: from the corner of the chart, over its steps, to the right
unfoldable pub curve_text : Frame → ℕ → Curve → List Level → List ℕ
curve_text f top curve levels =
    codes "M700 3500" ++ (flat_map (step_text f top curve) levels ++ (72 ∷ (decimal (right_of f) ++ closing curve)))

-- the class of what belongs to a port
abbrev pub port_class : ℕ → List ℕ
port_class port = codes "p" ++ decimal port

abbrev pub port_name : ℕ → List ℕ
port_name port = codes "port " ++ decimal port

-- the area up to the contracts of a port, over those of the ports before it
unfoldable pub area_of : Frame → ℕ → List Level → ℕ → Element
area_of f top levels port = path_of (port_class port) (curve_text f top (Contracts port) levels) (port_name port)

-- what belongs to the hold of a port
abbrev pub hold_class : ℕ → List ℕ
hold_class port = codes "hold h" ++ decimal port

abbrev pub hold_name : ℕ → List ℕ
hold_name port = port_name port ++ codes " holds"

-- the outline of what a port holds, upon the contracts of the ports before it
unfoldable pub outline_of : Frame → ℕ → List Level → ℕ → Element
outline_of f top levels port = path_of (hold_class port) (curve_text f top (Holds port) levels) (hold_name port)

unfoldable pub budget_of : Frame → ℕ → List Level → Element
budget_of f top levels = path_of (codes "budget") (curve_text f top Budget levels) (codes "budget")

-- a path from one place to another
unfoldable pub line_text : ℕ → ℕ → ℕ → ℕ → List ℕ
line_text x y xx yy = 77 ∷ (decimal x ++ (32 ∷ (decimal y ++ (76 ∷ (decimal xx ++ (32 ∷ decimal yy))))))

abbrev pub line_of : List ℕ → ℕ → ℕ → ℕ → ℕ → List ℕ → Element
line_of class x y xx yy words = path_of class (line_text x y xx yy) words

-- a time as on the axis, without and with its unit
abbrev pub time_number : Frame → ℕ → List ℕ
time_number f at = number_in (prefix_of f) at

abbrev pub time_text : Frame → ℕ → List ℕ
time_text f at = time_number f at ++ (32 ∷ seconds_name (prefix_of f))

-- a time on the axis, with a line down to the lanes' end
unfoldable pub time_line : Frame → ℕ → ℕ → Element
time_line f bottom at = line_of (codes "grid") (x_of f at) 700 (x_of f at) bottom []

unfoldable pub time_words : Frame → ℕ → Element
time_words f at = words_at (codes "tick middle") (x_of f at) 3680 (time_number f at)

-- such a time, if it is in the window: one of the multiples of the step
unfoldable pub time_tick : Frame → ℕ → ℕ → List Element
time_tick f bottom k =
    if is_inside f (time_of f k) then time_line f bottom (time_of f k) ∷ time_words f (time_of f k) ∷ [] else []

-- a power on the axis, with a line through the chart
unfoldable pub power_line : Frame → ℕ → ℕ → Element
power_line f top power = line_of (codes "grid") 700 (y_of top power) (right_of f) (y_of top power) []

unfoldable pub power_words : ℕ → ℕ → Element
power_words top power = words_at (codes "tick end") 660 (y_of top power + 35) (number_in Whole power)

-- such a one, if the chart reaches up to it: one of the multiples of the step
unfoldable pub power_tick : Frame → ℕ → ℕ → List Element
power_tick f top k =
    if nat_le (k * power_step top) top then power_line f top (k * power_step top) ∷ power_words top (k * power_step top) ∷ [] else []

-- what stands on the axes, and in which units
abbrev pub time_name : Frame → List ℕ
time_name f = codes "time (" ++ (seconds_name (prefix_of f) ++ codes ")")

abbrev pub axis_names : Frame → List Element
axis_names f = words_at (codes "tick end") 600 3680 (time_name f) ∷ words_at (codes "tick end") 660 600 (codes "power (W)") ∷ []

-- the title: what is drawn, and of which window
unfoldable pub window_text : Frame → List ℕ
window_text f = time_number f f.from ++ (codes " to " ++ time_text f f.to)

abbrev pub title_text : Frame → List ℕ
title_text f = codes "Shared budget and contracts, " ++ window_text f

abbrev pub title_of : Frame → Element
title_of f = words_at (codes "head") 700 190 (title_text f)

-- the least margin: its mark from the contracts up to the budget, where there are any, and its words in the legend
unfoldable pub margin_mark : Frame → ℕ → Level → Element
margin_mark f top l =
    line_of (codes "least") (x_of f l.at) (y_of top (sum l.powers)) (x_of f l.at) (y_of top l.budget) (codes "least margin")

unfoldable pub margin_text : Frame → Level → List ℕ
margin_text f l =
    codes "least margin in this window: " ++ (number_in Whole (margin l) ++ (codes " W at " ++ time_text f l.at))

abbrev pub margin_marks : Frame → ℕ → Level → List Element
margin_marks f top l = if nat_le 1 (sum l.powers) then margin_mark f top l ∷ [] else []

abbrev pub margin_words : Frame → Level → List Element
margin_words f l = line_of (codes "least") 760 560 761 560 [] ∷ words_at (codes "tick") 850 600 (margin_text f l) ∷ []

-- the x at which it stands what a colour stands for
abbrev pub key_left : ℕ → ℕ
key_left place = 700 + 900 * (place - 1)

-- what a colour stands for
unfoldable pub key_of : ℕ → List Element
key_of port =
    box_of (port_class port) (record { x = key_left port; y = 270; width = 120; height = 120 }) []
    ∷ words_at (codes "tick") (key_left port + 150) 370 (port_name port) ∷ []

-- what a line stands for
unfoldable pub line_key : List ℕ → ℕ → List ℕ → List Element
line_key class place words =
    line_of class (key_left place) 330 (key_left place + 120) 330 []
    ∷ words_at (codes "tick") (key_left place + 150) 370 words ∷ []

-- the lines of the budget and of the holds, where they are drawn, stand behind the ports
abbrev pub hold_key : ℕ → Bool → List Element
hold_key n true = line_key (codes "hold") (n + 2) (codes "holds")
hold_key n false = []

abbrev pub line_keys : ℕ → Bool → List Element
line_keys n holds = line_key (codes "budget") (n + 1) (codes "budget") ++ hold_key n holds

-- all words beside the chart but those of the ports' colours and of the ticks
abbrev pub names_of : Frame → ℕ → Bool → List Element
names_of f n holds = line_keys n holds ++ (title_of f ∷ axis_names f)

-- the ports, up and down
abbrev pub ports_up : ℕ → List ℕ
ports_up n = take n (1 ∷ 2 ∷ 3 ∷ 4 ∷ 5 ∷ 6 ∷ 7 ∷ 8 ∷ [])

abbrev pub ports_down : ℕ → List ℕ
ports_down n = drop (8 - n) (8 ∷ 7 ∷ 6 ∷ 5 ∷ 4 ∷ 3 ∷ 2 ∷ 1 ∷ [])

-- the ports whose holds are drawn
abbrev pub held_ports : ℕ → Bool → List ℕ
held_ports n true = ports_down n
held_ports n false = []

-- as many ticks as there may be
abbrev pub power_ticks : List ℕ
power_ticks = 0 ∷ 1 ∷ 2 ∷ 3 ∷ 4 ∷ 5 ∷ 6 ∷ 7 ∷ 8 ∷ []

abbrev pub time_ticks : List ℕ
time_ticks = 0 ∷ 1 ∷ 2 ∷ 3 ∷ 4 ∷ 5 ∷ 6 ∷ 7 ∷ 8 ∷ 9 ∷ 10 ∷ []
