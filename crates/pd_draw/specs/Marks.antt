-- The marks of a lane: events, changes of the contract, faults and packets.
use Rattle.std.specs.Prelude.{ℕ, ◌+◌, ◌-◌, ◌==◌, ◌&&◌, not, nat_le, nat_lt, Bool, true, false, if◌then◌else◌, List, [], ◌∷◌, ◌++◌}
use Rattle.std.specs.Prelude.{map, codes, decimal, slice_index, slice_set, Option, Some, None}
use Rattle.std.specs.List.{fold}
use Rattle.pd_chart.specs.Elements.{Element}
use Rattle.pd_chart.specs.Shapes.{box_of, path_of, words_at}
use Rattle.pd_header.specs.Kinds.{kind_of_header, name_of}
use Rattle.pd_header.specs.declared.side.Side.{Side}
use Rattle.pd_header.specs.declared.side.Side.TheVariants.{Source, Sink, Plug}
use Rattle.pd_packet.specs.Timing.{duration_of, hard_reset_duration, symbols_of}
use Rattle.pd_packet.specs.declared.fate.Fate.{Fate}
use Rattle.pd_packet.specs.declared.fate.Fate.TheVariants.{Undisturbed}
use Rattle.pd_symbols.specs.declared.channel.Channel.{Channel}
use Rattle.pd_symbols.specs.declared.channel.Channel.TheVariants.{Sop, SopPrime}
use Rattle.pd_line.specs.declared.notes.Fault.{Fault}
use Rattle.pd_line.specs.declared.notes.Start.{Start}
use Rattle.pd_line.specs.declared.notes.Start.TheVariants as start
use Rattle.pd_port.specs.declared.due.What.{What}
use Rattle.pd_port.specs.declared.due.What.TheVariants as what
use Rattle.pd_port.specs.declared.entry.ContractChange.{ContractChange}
use Rattle.pd_report.specs.FaultLines.{fault_words}
use Rattle.pd_tell.specs.Words.{event_words, fate_words, start_words}
use Rattle.pd_show.specs.declared.seen.Seen.{Seen}
use Rattle.pd_show.specs.Choices.{good_crc}
use Rattle.pd_show.specs.Lines.{change_words}
use Rattle.pd_chart.specs.Scale.{right_of, x_of}
use Rattle.pd_draw.specs.declared.figure.Figure.{Figure}
use Rattle.pd_draw.specs.declared.figure.Style.{Style}
use Rattle.pd_draw.specs.declared.figure.Style.TheVariants.{Plain, Quiet, Broken}
use Rattle.pd_draw.specs.declared.lane.Lane.{Lane}
use Rattle.pd_draw.specs.declared.place.Place.{Place}
use Rattle.pd_draw.specs.declared.place.Row.{Row}
use Rattle.pd_draw.specs.declared.place.Row.TheVariants.{Events, Contracts, Faults, Packets, CablePackets}
use Rattle.pd_draw.specs.Places.{box_width, row_class, row_number, row_top, title_words}

-- a mark: its figure, the label that it has where there is room, and its words in the shown run
pub record Mark : Type 0 where
  pub figure : Figure
  pub label : List ℕ
  pub words : List ℕ

-- ---- which marks a move has

abbrev pub mark_of : Figure → List ℕ → List ℕ → Mark
mark_of figure label words = record { figure = figure; label = label; words = words }

abbrev pub plain : Row → Figure
plain row = record { row = row; style = Plain; side = None; lasts = 0 }

abbrev pub event_marks : Seen → What → List Mark
event_marks seen (what.Event event) =
    mark_of (plain Events) (event_words event.happening seen.budget) (event_words event.happening seen.budget) ∷ []
event_marks seen what.Line = []
event_marks seen (what.Timer side timer) = []

abbrev pub fault_mark : Fault → Mark
fault_mark fault = mark_of (plain Faults) (fault_words fault) (codes "fault " ++ fault_words fault)

abbrev pub change_marks : Option ContractChange → List Mark
change_marks None = []
change_marks (Some change) = mark_of (plain Contracts) (change_words change) (change_words change) ∷ []

-- a packet that is lost or damaged is broken; a GoodCRC that arrives is quiet
abbrev pub packet_style : ℕ → Fate → Style
packet_style header Undisturbed = if good_crc (kind_of_header header) then Quiet else Plain
packet_style header _ = Broken

-- what is sent to the plug has a row of its own
abbrev pub packet_row : Channel → Row
packet_row Sop = Packets
packet_row SopPrime = CablePackets

-- a packet lasts as long as it is on the line
abbrev pub start_figure : Start → Figure
start_figure (start.Packet side packet fate) = record {
  row = packet_row packet.channel;
  style = packet_style packet.header fate;
  side = Some side;
  lasts = duration_of (symbols_of packet);
}
start_figure (start.HardReset side) = record { row = Packets; style = Plain; side = Some side; lasts = hard_reset_duration }

-- the event whose disturbance it is, by its id
abbrev pub by_label : Option ℕ → List ℕ
by_label None = []
by_label (Some id) = codes " by " ++ decimal id

-- the name of what starts on the line; of a packet that is lost or damaged also that, and the event that does it
abbrev pub start_label : Option ℕ → Start → List ℕ
start_label by (start.Packet side packet fate) = name_of (kind_of_header packet.header) ++ (fate_words fate ++ by_label by)
start_label by (start.HardReset side) = codes "Hard_Reset"

abbrev pub start_mark : Option ℕ → Start → Mark
start_mark by start = mark_of (start_figure start) (start_label by start) (start_words false by start)

abbrev pub start_marks : Option ℕ → Option Start → List Mark
start_marks by None = []
start_marks by (Some start) = start_mark by start ∷ []

-- all marks of a move
unfoldable pub marks_of : Seen → List Mark
marks_of seen =
    event_marks seen seen.entry.due.what ++ (map fault_mark seen.entry.faults.items
    ++ (change_marks seen.entry.contract ++ start_marks seen.by seen.entry.start))

-- ---- how they are drawn

abbrev pub is_packets : Row → Bool
is_packets Packets = true
is_packets CablePackets = true
is_packets _ = false

abbrev pub style_broken : Style → Bool
style_broken Broken = true
style_broken _ = false

abbrev pub is_broken : Figure → Bool
is_broken figure = style_broken figure.style

abbrev pub style_quiet : Style → Bool
style_quiet Quiet = true
style_quiet _ = false

abbrev pub is_quiet : Figure → Bool
is_quiet figure = style_quiet figure.style

-- a packet that arrives, or a Hard Reset
abbrev pub is_packet : Figure → Bool
is_packet figure = is_packets figure.row && not (is_broken figure)

-- how it looks, if it isn't broken: as its row, or as who sends it
abbrev pub sent_class : Row → Option Side → List ℕ
sent_class row None = row_class row
sent_class row (Some Source) = codes "packet src"
sent_class row (Some Sink) = codes "packet snk"
sent_class row (Some Plug) = codes "packet cbl"

abbrev pub figure_class : Figure → List ℕ
figure_class figure = if is_broken figure then codes "broken" else sent_class figure.row figure.side

-- what crosses the tick out of what doesn't arrive
abbrev pub cross : Figure → List ℕ
cross figure = if is_broken figure then codes "m-30 0l60-35m-60 0l60 35m-30 0" else []

-- a packet less than a pixel right of the last one that was drawn is drawn together with that one, but never one that doesn't arrive
abbrev pub joins : Place → Lane → Figure → Bool
joins p lane figure = is_packet figure && nat_lt (x_of p.frame p.at) (slice_index lane.nexts (row_number figure.row))

-- the left side of the box of a label: at its time, or left of it where it would end outside of the chart
abbrev pub label_left : Place → List ℕ → ℕ
label_left p label =
    if nat_le (x_of p.frame p.at + box_width label) (right_of p.frame) then x_of p.frame p.at else x_of p.frame p.at - box_width label

-- there is a label, and room for its box: that of the one before in its row has ended
abbrev pub has_room : Place → Lane → Figure → List ℕ → Bool
has_room p lane figure label =
    not (is_quiet figure) && nat_le (slice_index lane.rooms (row_number figure.row)) (label_left p label)

-- the tick of a mark; a browser tells what it is, but of a packet that arrives, whose box tells it
abbrev pub tick_title : Figure → List ℕ → List ℕ
tick_title figure title = if is_packet figure then [] else title

-- where what is marked ends
abbrev pub figure_end : Place → Figure → ℕ
figure_end p figure = x_of p.frame (p.at + figure.lasts)

-- a tick stands at the bottom of its row, and goes up to its label
abbrev pub tick_up : Bool → List ℕ
tick_up true = codes "v-135"
tick_up false = codes "v-35"

-- it is as wide as what is marked lasts
unfoldable pub tick_width : Place → Figure → List ℕ
tick_width p figure = 72 ∷ (decimal (figure_end p figure) ++ (codes "v-35H" ++ (decimal (x_of p.frame p.at) ++ codes "v35")))

abbrev pub tick_along : Place → Figure → List ℕ
tick_along p figure = if figure_end p figure == x_of p.frame p.at then [] else tick_width p figure

-- what a tick is made of, from its place on
abbrev pub tick_parts : Place → Figure → Bool → List ℕ
tick_parts p figure labelled = tick_along p figure ++ (cross figure ++ tick_up labelled)

unfoldable pub tick_text : Place → Figure → Bool → List ℕ
tick_text p figure labelled =
    77 ∷ (decimal (x_of p.frame p.at) ++ (32 ∷ (decimal (row_top figure.row + 135) ++ tick_parts p figure labelled)))

unfoldable pub tick_of : Place → Figure → Bool → List ℕ → Element
tick_of p figure labelled title = path_of (figure_class figure) (tick_text p figure labelled) (tick_title figure title)

-- the box of a label, and the label in it
unfoldable pub label_box : Place → Figure → List ℕ → List ℕ → Element
label_box p figure label title =
    box_of (figure_class figure ++ codes " box")
    (record { x = label_left p label; y = row_top figure.row; width = box_width label; height = 100 }) title

unfoldable pub label_words : Place → Figure → List ℕ → Element
label_words p figure label = words_at (codes "label") (label_left p label + 30) (row_top figure.row + 73) label

abbrev pub label_elements : Place → Lane → Figure → List ℕ → List ℕ → List Element
label_elements p lane figure label title =
    if has_room p lane figure label then label_box p figure label title ∷ label_words p figure label ∷ [] else []

-- a mark: its tick, and its label in a box beside it where there is room
unfoldable pub mark_elements : Place → Lane → Mark → List Element
mark_elements p lane m =
    if joins p lane m.figure then []
    else tick_of p m.figure (has_room p lane m.figure m.label) (title_words p m.figure.row m.words)
    ∷ label_elements p lane m.figure m.label (title_words p m.figure.row m.words)

-- from where on there is room in each row
abbrev pub rooms_after : Place → Lane → Figure → List ℕ → List ℕ
rooms_after p lane figure label =
    if has_room p lane figure label
    then slice_set lane.rooms (row_number figure.row) (label_left p label + (box_width label + 20)) else lane.rooms

-- from where on a packet is drawn for itself in each row
abbrev pub nexts_after : Place → Lane → Figure → List ℕ
nexts_after p lane figure =
    if is_packet figure then slice_set lane.nexts (row_number figure.row) (x_of p.frame p.at + 10) else lane.nexts

-- the lane after a mark
unfoldable pub lane_with : Place → Lane → Mark → Lane
lane_with p lane m =
    if joins p lane m.figure then lane
    else record lane { rooms = rooms_after p lane m.figure m.label; nexts = nexts_after p lane m.figure; marked = true }

-- the lane after some marks
abbrev pub lane_marked : Place → Lane → List Mark → Lane
lane_marked p lane marks = fold (lane_with p) lane marks

-- what is drawn of them
abbrev pub marks_elements : Place → Lane → List Mark → List Element
marks_elements p lane [] = []
marks_elements p lane (m ∷ ms) = mark_elements p lane m ++ marks_elements p (lane_with p lane m) ms
