-- What stands in a lane: all places are in tenths of a pixel, from the lane's top.
use Rattle.std.specs.Prelude.{ℕ, ◌+◌, ◌*◌, min, List, ◌∷◌, ◌++◌, length, codes, decimal}
use Rattle.pd_show.specs.Pages.{bare_line}
use Rattle.pd_draw.specs.declared.place.Place.{Place}
use Rattle.pd_draw.specs.declared.place.Row.{Row}
use Rattle.pd_draw.specs.declared.place.Row.TheVariants.{Events, Contracts, Faults, Packets, CablePackets}

-- the rows of a lane below its bands, from the top
abbrev pub row_number : Row → ℕ
row_number Events = 0
row_number Contracts = 1
row_number Faults = 2
row_number Packets = 3
row_number CablePackets = 4

-- how what is in a row looks
abbrev pub row_class : Row → List ℕ
row_class Events = codes "event"
row_class Contracts = codes "change"
row_class Faults = codes "fault"
row_class Packets = codes "packet"
row_class CablePackets = codes "packet"

-- the top of a row, from the lane's
abbrev pub row_top : Row → ℕ
row_top row = 150 + 140 * row_number row

-- how wide the box of a label is: 6 pixels for each sign, and 6 more
abbrev pub box_width : List ℕ → ℕ
box_width label = 60 * min 1000 (length label) + 60

-- when, on which port, and the words of the shown run
unfoldable pub told_words : Place → List ℕ → List ℕ
told_words p words = decimal p.at ++ (codes " port " ++ (decimal p.port ++ (32 ∷ words)))

-- what a browser tells of words of the shown run: of a packet the whole line there
abbrev pub title_words : Place → Row → List ℕ → List ℕ
title_words p Packets words = bare_line p.at p.since p.port words
title_words p CablePackets words = bare_line p.at p.since p.port words
title_words p _ words = told_words p words
