-- What is said of a place at which a rule is broken: this product's own form, docs/FORMATS.md, "Reasons".
use Rattle.std.specs.Prelude.{ℕ, ◌-◌, ◌==◌, List, [], ◌∷◌, ◌++◌, length, take, map, codes, decimal, nat_lt, if◌then◌else◌}
use Rattle.std.specs.List.{flat_map}
use Rattle.pd_hints.specs.Slips.{nearest, meant_text}
use Rattle.pd_scenario.specs.declared.limits.Quantity.{Quantity}
use Rattle.pd_scenario.specs.declared.named.NamedCable.{NamedCable}
use Rattle.pd_scenario.specs.declared.named.NamedSink.{NamedSink}
use Rattle.pd_scenario.specs.declared.event.ScenarioEvent.{ScenarioEvent}
use Rattle.pd_scenario.specs.Limits.{Range, between, stepped, range_of}
use Rattle.pd_scenario.specs.Scenarios.{ScenarioData}
use Rattle.pd_units.specs.Readings.{number_reading, rating_reading, unit_text}
use Rattle.pd_explain.specs.declared.place.NumberWord.{NumberWord}
use Rattle.pd_explain.specs.declared.place.NumberWord.TheVariants as word
use Rattle.pd_explain.specs.declared.place.Counted.{Counted}
use Rattle.pd_explain.specs.declared.place.Counted.TheVariants as counted
use Rattle.pd_explain.specs.declared.place.Place.{Place}
use Rattle.pd_explain.specs.declared.place.Place.TheVariants as place

-- ---- what there is: eight of a list at most, and how many more

-- the words of a list behind a comma each
abbrev pub behind_commas : List (List ℕ) → List ℕ
behind_commas words = flat_map (λ word. 44 ∷ 32 ∷ word) words

-- so many are told behind the first
abbrev pub most_others : ℕ
most_others = 7

unfoldable pub more_words : ℕ → List ℕ
more_words count = codes " and " ++ (decimal count ++ codes " more")

-- how many more there are than are told, where there are any
abbrev pub more_text : ℕ → List ℕ
more_text count = if count == 0 then [] else more_words count

unfoldable pub others_text : List (List ℕ) → List ℕ
others_text others = behind_commas (take most_others others) ++ more_text (length others - most_others)

unfoldable pub some_text : List ℕ → List (List ℕ) → List ℕ
some_text first others = codes "; there are " ++ (first ++ others_text others)

-- what there is in place of what isn't there
unfoldable pub there_are : List (List ℕ) → List ℕ
there_are [] = codes "; there are none"
there_are (first ∷ others) = some_text first others

abbrev pub cable_names : ScenarioData → List (List ℕ)
cable_names c = map (λ (cable : NamedCable). cable.name) c.cables

abbrev pub sink_names : ScenarioData → List (List ℕ)
sink_names c = map (λ (sink : NamedSink). sink.name) c.sinks

unfoldable pub id_text : ScenarioEvent → List ℕ
id_text e = decimal e.id

abbrev pub event_ids : ScenarioData → List (List ℕ)
event_ids c = map id_text c.events

-- ---- numbers

abbrev pub number_word : NumberWord → List ℕ
number_word word.Id = codes "ID"
number_word word.At = codes "AT"
number_word word.Mw = codes "MW"
number_word word.Place = codes "PLACE"
number_word word.Mask = codes "MASK"
number_word word.Max = codes "MAX"
number_word word.Demand = codes "DEMAND"
number_word (word.Mv supply) = codes "MV"
number_word (word.Ma supply) = codes "MA"

-- of which supply a word is
abbrev pub of_supply : NumberWord → List ℕ
of_supply (word.Mv supply) = codes " of supply " ++ decimal supply
of_supply (word.Ma supply) = codes " of supply " ++ decimal supply
of_supply _ = []

-- the least number, the greatest, and of what each is a multiple
abbrev pub least_in : Range → ℕ
least_in (between low high) = low
least_in (stepped low high step) = low

abbrev pub greatest_in : Range → ℕ
greatest_in (between low high) = high
greatest_in (stepped low high step) = high

abbrev pub step_in : Range → ℕ
step_in (between low high) = 1
step_in (stepped low high step) = step

unfoldable pub step_text : Quantity → List ℕ
step_text quantity = codes ", no multiple of " ++ decimal (step_in (range_of quantity))

-- how a number is out of the range of its quantity
unfoldable pub bound_text : Quantity → ℕ → List ℕ
bound_text quantity value =
    if nat_lt value (least_in (range_of quantity)) then codes ", below " ++ decimal (least_in (range_of quantity))
    else if nat_lt (greatest_in (range_of quantity)) value then codes ", above " ++ decimal (greatest_in (range_of quantity))
    else step_text quantity

-- with its unit
unfoldable pub out_text : Quantity → ℕ → List ℕ
out_text quantity value = bound_text quantity value ++ unit_text quantity

-- ---- all

abbrev pub counted_word : Counted → List ℕ
counted_word counted.Events = codes " events"
counted_word counted.Cables = codes " cables"
counted_word counted.Sinks = codes " sinks"

unfoldable pub no_event_text : ℕ → List ℕ
no_event_text id = codes "no event is " ++ decimal id

unfoldable pub known_id_text : List (List ℕ) → ℕ → List ℕ
known_id_text ids id = no_event_text id ++ there_are ids

unfoldable pub port_text : ℕ → ℕ → List ℕ
port_text n port = codes "no port is " ++ (decimal port ++ (codes "; the last is " ++ decimal n))

unfoldable pub no_cable_text : List ℕ → List ℕ
no_cable_text name = codes "no cable is named `" ++ (name ++ codes "`")

unfoldable pub cable_text : List (List ℕ) → List ℕ → List ℕ
cable_text names name = no_cable_text name ++ there_are names

unfoldable pub no_sink_text : List ℕ → List ℕ
no_sink_text name = codes "no sink is named `" ++ (name ++ codes "`")

unfoldable pub sink_text : List (List ℕ) → List ℕ → List ℕ
sink_text names name = no_sink_text name ++ there_are names

unfoldable pub user_text : ℕ → ℕ → List ℕ
user_text id at = codes "event " ++ (decimal id ++ (codes " at " ++ (decimal at ++ codes " names it")))

-- a word, and of which supply it is
unfoldable pub word_text : NumberWord → List ℕ
word_text word = codes "`" ++ (number_word word ++ (codes "`" ++ of_supply word))

unfoldable pub is_text : ℕ → List ℕ
is_text value = codes " is " ++ decimal value

unfoldable pub number_text : NumberWord → Quantity → ℕ → List ℕ
number_text word quantity value = word_text word ++ (is_text value ++ out_text quantity value)

unfoldable pub before_text : ℕ → List ℕ
before_text before = codes ", not above " ++ (decimal before ++ codes " mV before it")

unfoldable pub next_supply_text : ℕ → ℕ → ℕ → List ℕ
next_supply_text supply mv before = word_text (word.Mv supply) ++ (is_text mv ++ before_text before)

unfoldable pub floors_text : ℕ → ℕ → List ℕ
floors_text floors budget =
    codes "the floors add to " ++ (decimal floors ++ (codes " mW, above the least budget, " ++ (decimal budget ++ codes " mW")))

unfoldable pub new_id_text : ℕ → List ℕ
new_id_text id = codes "event " ++ (decimal id ++ codes " is there already")

unfoldable pub changed_text : ℕ → List ℕ
changed_text id = codes "event " ++ (decimal id ++ codes " is a change of the budget, on no port")

unfoldable pub rating_text : ℕ → List ℕ
rating_text rating = codes "`RATING` is " ++ (decimal rating ++ codes ", neither 3000 nor 5000 mA")

unfoldable pub count_text : ℕ → List ℕ
count_text count = codes "there are " ++ (decimal count ++ codes " supplies, not 1 to 7")

unfoldable pub first_supply_text : ℕ → List ℕ
first_supply_text mv = codes "`MV` of supply 1 is " ++ (decimal mv ++ codes ", not 5000 mV")

unfoldable pub room_text : Counted → ℕ → List ℕ
room_text counted count = codes "there are " ++ (decimal count ++ (counted_word counted ++ codes " already"))

-- the word of the line that a place is of, where it is of one that stands for a number
abbrev pub word_at : Place → List ℕ
word_at (place.Number word quantity value) = number_word word
word_at (place.Rating rating) = codes "RATING"
word_at (place.FirstSupply mv) = codes "MV"
word_at (place.NextSupply supply mv before) = codes "MV"
word_at _ = []

-- the first of the names of which a name that isn't there is a slip, where it is one; and in which other unit a number that isn't
-- allowed may have been meant
abbrev pub hint : ScenarioData → Place → List ℕ
hint c (place.Cable name) = meant_text (nearest name (cable_names c))
hint c (place.Sink name) = meant_text (nearest name (sink_names c))
hint c (place.Number word quantity value) = number_reading quantity value
hint c (place.Rating rating) = rating_reading rating
hint c _ = []

abbrev pub sentence : ℕ → ScenarioData → Place → List ℕ
sentence n c (place.NewId id) = new_id_text id
sentence n c (place.KnownId id) = known_id_text (event_ids c) id
sentence n c (place.Port port) = port_text n port
sentence n c (place.Changed id) = changed_text id
sentence n c (place.Cable name) = cable_text (cable_names c) name
sentence n c (place.Sink name) = sink_text (sink_names c) name
sentence n c (place.User id at) = user_text id at
sentence n c (place.Number word quantity value) = number_text word quantity value
sentence n c (place.Rating rating) = rating_text rating
sentence n c (place.SupplyCount count) = count_text count
sentence n c (place.FirstSupply mv) = first_supply_text mv
sentence n c (place.NextSupply supply mv before) = next_supply_text supply mv before
sentence n c (place.Floors floors budget) = floors_text floors budget
sentence n c (place.Room counted count) = room_text counted count
