-- Where an edit breaks a rule: this product's own, the table of numbers in docs/FORMATS.md, "Edit script". A heading below has
-- a row's number; the rules are those of Refusals.antt of pd_edit.
use Rattle.std.specs.Prelude.{ℕ, ◌+◌, Bool, true, not, ◌||◌, ◌&&◌, ◌==◌, nat_le, nat_lt, List, [], ◌∷◌, length}
use Rattle.std.specs.Prelude.{map, filter, is_some, if◌then◌else◌}
use Rattle.std.specs.List.{list_all, flat_map}
use Rattle.pd_scenario.specs.declared.limits.Quantity.TheVariants as quantity
use Rattle.pd_scenario.specs.declared.event.ScenarioEvent.{ScenarioEvent}
use Rattle.pd_setup.specs.declared.event.EventKind.TheVariants.{Attach, Demand, Damage}
use Rattle.pd_scenario.specs.Scenarios.{ScenarioData, has_id, floors_mw, least_budget}
use Rattle.pd_scenario.specs.Limits.{allows, is_port, most_names, most_events, most_supplies, first_mv}
use Rattle.pd_scenario.specs.Words.{rating_of}
use Rattle.pd_edit_lines.specs.declared.fault.EditFault.{EditFault}
use Rattle.pd_edit_lines.specs.declared.fault.EditFault.TheVariants.{Syntax, IdTaken, NoSuchId, NoSuchPort, NoSuchName, InUse, Range}
use Rattle.pd_edit_lines.specs.declared.fault.EditFault.TheVariants.{Supplies, Floors, Limit, Memory}
use Rattle.pd_edit_lines.specs.Kinds.{EditKind}
use Rattle.pd_edit_lines.specs.declared.edit.EditHappening.{EditHappening}
use Rattle.pd_edit_lines.specs.declared.edit.EditHappening.TheVariants as happens
use Rattle.pd_edit_lines.specs.declared.edit.WrittenSupply.{WrittenSupply}
use Rattle.pd_edit_lines.specs.declared.edit.Edit.{Edit}
use Rattle.pd_edit_lines.specs.declared.edit.Edit.TheVariants.{Insert, Remove, Move, Change, Cable, DropCable, Sink, DropSink, Caps, Floor}
use Rattle.pd_edit_lines.specs.declared.edit.Edit.TheVariants.{Budget, End}
use Rattle.pd_edit.specs.Edits.{has_cable, has_sink, outcome}
use Rattle.pd_edit.specs.Refusals.{is_on_port, names_cable, names_sink, refusals}
use Rattle.pd_explain.specs.declared.place.NumberWord.TheVariants as word
use Rattle.pd_explain.specs.declared.place.Counted.{Counted}
use Rattle.pd_explain.specs.declared.place.Counted.TheVariants as counted
use Rattle.pd_explain.specs.declared.place.Place.{Place}
use Rattle.pd_explain.specs.declared.place.Place.TheVariants as place
use Rattle.pd_explain.specs.declared.place.Reason.{Reason}

-- ---- 21: the id of a new event

abbrev pub new_ids : Edit → List Place
new_ids (Insert id at happening) = place.NewId id ∷ []
new_ids _ = []

-- ---- 22: the id of an event that is to be there

abbrev pub known_ids : Edit → List Place
known_ids (Remove id) = place.KnownId id ∷ []
known_ids (Move id at) = place.KnownId id ∷ []
known_ids (Change id kind) = place.KnownId id ∷ []
known_ids _ = []

-- ---- 23: ports, and the event that is to be of another kind

abbrev pub happening_ports : EditHappening → List Place
happening_ports (happens.OnPort port kind) = place.Port port ∷ []
happening_ports (happens.Budget mw) = []

abbrev pub ports : Edit → List Place
ports (Insert id at happening) = happening_ports happening
ports (Change id kind) = place.Changed id ∷ []
ports (Caps port supplies) = place.Port port ∷ []
ports (Floor port mw) = place.Port port ∷ []
ports _ = []

-- ---- 24: names of cables and sinks

abbrev pub kind_names : EditKind → List Place
kind_names (Attach cable sink) = place.Cable cable ∷ place.Sink sink ∷ []
kind_names _ = []

abbrev pub happening_names : EditHappening → List Place
happening_names (happens.OnPort port kind) = kind_names kind
happening_names (happens.Budget mw) = []

abbrev pub names : Edit → List Place
names (Insert id at happening) = happening_names happening
names (Change id kind) = kind_names kind
names (DropCable name) = place.Cable name ∷ []
names (DropSink name) = place.Sink name ∷ []
names _ = []

-- ---- 25: the events that name what is taken out

abbrev pub user : ScenarioEvent → Place
user e = place.User e.id e.at

abbrev pub users : ScenarioData → Edit → List Place
users c (DropCable name) = map user (filter (λ (e : ScenarioEvent). names_cable name e.happening) c.events)
users c (DropSink name) = map user (filter (λ (e : ScenarioEvent). names_sink name e.happening) c.events)
users c _ = []

-- ---- 26: numbers

abbrev pub kind_numbers : EditKind → List Place
kind_numbers (Demand mw) = place.Number word.Mw quantity.Demand mw ∷ []
kind_numbers (Damage harm) =
    place.Number word.Place quantity.DamagePlace harm.place ∷ place.Number word.Mask quantity.DamageMask harm.mask ∷ []
kind_numbers _ = []

abbrev pub happening_numbers : EditHappening → List Place
happening_numbers (happens.OnPort port kind) = kind_numbers kind
happening_numbers (happens.Budget mw) = place.Number word.Mw quantity.Budget mw ∷ []

-- the supplies from one on, which has this place
abbrev pub supply_numbers : ℕ → List WrittenSupply → List Place
supply_numbers first [] = []
supply_numbers first (supply ∷ supplies) =
    place.Number (word.Mv first) quantity.Voltage supply.mv ∷ place.Number (word.Ma first) quantity.Current supply.ma
    ∷ supply_numbers (first + 1) supplies

-- of an edit that is about no event, cable or supply
abbrev pub plain_numbers : Edit → List Place
plain_numbers (Move id at) = place.Number word.At quantity.Time at ∷ []
plain_numbers (Sink name max_mv demand_mw mode revision) =
    place.Number word.Max quantity.Voltage max_mv ∷ place.Number word.Demand quantity.Demand demand_mw ∷ []
plain_numbers (Floor port mw) = place.Number word.Mw quantity.Floor mw ∷ []
plain_numbers (Budget mw) = place.Number word.Mw quantity.Budget mw ∷ []
plain_numbers (End at) = place.Number word.At quantity.Time at ∷ []
plain_numbers _ = []

abbrev pub numbers : Edit → List Place
numbers (Insert id at happening) =
    place.Number word.Id quantity.EventId id ∷ place.Number word.At quantity.Time at ∷ happening_numbers happening
numbers (Change id kind) = kind_numbers kind
numbers (Cable name plug rating) = place.Rating rating ∷ []
numbers (Caps port supplies) = supply_numbers 1 supplies.items
numbers edit = plain_numbers edit

-- ---- 27: supplies

-- the supplies from one on, which has this place, behind one of this voltage
abbrev pub later_supplies : ℕ → ℕ → List WrittenSupply → List Place
later_supplies first before [] = []
later_supplies first before (supply ∷ supplies) = place.NextSupply first supply.mv before ∷ later_supplies (first + 1) supply.mv supplies

abbrev pub voltages : List WrittenSupply → List Place
voltages [] = []
voltages (supply ∷ supplies) = place.FirstSupply supply.mv ∷ later_supplies 2 supply.mv supplies

abbrev pub supplies_of : Edit → List Place
supplies_of (Caps port supplies) = place.SupplyCount (length supplies.items) ∷ voltages supplies.items
supplies_of _ = []

-- ---- 28: the floors as they then are, beside the least budget as it then is

abbrev pub floors_of : ScenarioData → List Place
floors_of c = place.Floors (floors_mw c.settings) (least_budget c.budget_mw c.events) ∷ []

abbrev pub funds : ScenarioData → Edit → List Place
funds c (Insert id at (happens.Budget mw)) = floors_of (outcome c (Insert id at (happens.Budget mw)))
funds c (Floor port mw) = floors_of (outcome c (Floor port mw))
funds c (Budget mw) = floors_of (outcome c (Budget mw))
funds c _ = []

-- ---- 29: what there is already, where one more is to come

abbrev pub rooms : ScenarioData → Edit → List Place
rooms c (Insert id at happening) = place.Room counted.Events (length c.events) ∷ []
rooms c (Cable name plug rating) = if has_cable c.cables name then [] else place.Room counted.Cables (length c.cables) ∷ []
rooms c (Sink name max_mv demand_mw mode revision) =
    if has_sink c.sinks name then [] else place.Room counted.Sinks (length c.sinks) ∷ []
rooms c _ = []

-- ---- all

-- the places of an edit at which the rule of a refusal bears, in the order of the line's words
abbrev pub places_of : EditFault → ScenarioData → Edit → List Place
places_of Syntax c edit = []
places_of IdTaken c edit = new_ids edit
places_of NoSuchId c edit = known_ids edit
places_of NoSuchPort c edit = ports edit
places_of NoSuchName c edit = names edit
places_of InUse c edit = users c edit
places_of Range c edit = numbers edit
places_of Supplies c edit = supplies_of edit
places_of Floors c edit = funds c edit
places_of Limit c edit = rooms c edit
places_of Memory c edit = []

-- the most that there may be
abbrev pub most_of : Counted → ℕ
most_of counted.Events = most_events
most_of counted.Cables = most_names
most_of counted.Sinks = most_names

-- the rule is broken at a place, in a scenario of n ports
abbrev pub is_broken : ℕ → ScenarioData → Place → Bool
is_broken n c (place.NewId id) = has_id c.events id
is_broken n c (place.KnownId id) = not (has_id c.events id)
is_broken n c (place.Port port) = not (is_port n port)
is_broken n c (place.Changed id) = not (list_all (λ (e : ScenarioEvent). not (e.id == id) || is_on_port e.happening) c.events)
is_broken n c (place.Cable name) = not (has_cable c.cables name)
is_broken n c (place.Sink name) = not (has_sink c.sinks name)
is_broken n c (place.User id at) = true
is_broken n c (place.Number word quantity value) = not (allows quantity value)
is_broken n c (place.Rating rating) = not (is_some (rating_of rating))
is_broken n c (place.SupplyCount count) = not (nat_le 1 count && nat_le count most_supplies)
is_broken n c (place.FirstSupply mv) = not (mv == first_mv)
is_broken n c (place.NextSupply supply mv before) = not (nat_lt before mv)
is_broken n c (place.Floors floors budget) = not (nat_le floors budget)
is_broken n c (place.Room counted count) = not (nat_lt count (most_of counted))

-- where an edit breaks the rule of a refusal: each such place, and no other
abbrev pub causes : EditFault → ℕ → ScenarioData → Edit → List Place
causes fault n c edit = filter (is_broken n c) (places_of fault c edit)

-- the refusal with each of these places
abbrev pub reasons_at : EditFault → List Place → List Reason
reasons_at fault places = map (λ place. record { fault = fault; place = place }) places

-- each place at which any refusal applies to an edit, in the order of the refusals' numbers
abbrev pub reasons : ℕ → ScenarioData → Edit → List Reason
reasons n c edit = flat_map (λ fault. reasons_at fault (causes fault n c edit)) refusals
