-- What an edit is refused for: this product's own, the table of numbers in docs/FORMATS.md, "Edit script". A heading below
-- has a row's number; the ranges are those of Limits.antt of pd_scenario.
use Rattle.std.specs.Prelude.{◌≡◌, ℕ, Bool, true, false, not, ◌||◌, ◌&&◌, ◌==◌, nat_le, nat_lt, List, [], ◌∷◌, length, find, Option, Some}
use Rattle.std.specs.Prelude.{None, Result, Ok, Err, IsOk, is_some, bytes_eq}
use Rattle.std.specs.List.{list_any, list_all}
use Rattle.pd_scenario.specs.declared.limits.Quantity.TheVariants as quantity
use Rattle.pd_scenario.specs.declared.event.ScenarioEvent.{ScenarioEvent}
use Rattle.pd_scenario.specs.Events.{ScenarioEventKind}
use Rattle.pd_setup.specs.declared.event.EventKind.TheVariants.{Attach, Demand, Damage}
use Rattle.pd_scenario.specs.declared.event.ScenarioHappening.{ScenarioHappening}
use Rattle.pd_scenario.specs.declared.event.ScenarioHappening.TheVariants as scenario_happening
use Rattle.pd_scenario.specs.Scenarios.{ScenarioData, has_id, is_funded}
use Rattle.pd_scenario.specs.Limits.{allows, is_port, most_names, most_events, most_supplies, first_mv}
use Rattle.pd_edit_lines.specs.declared.fault.EditFault.{EditFault}
use Rattle.pd_edit_lines.specs.declared.fault.EditFault.TheVariants.{Syntax, IdTaken, NoSuchId, NoSuchPort, NoSuchName, InUse, Range}
use Rattle.pd_edit_lines.specs.declared.fault.EditFault.TheVariants.{Supplies, Floors, Limit, Memory}
use Rattle.pd_edit_lines.specs.Kinds.{EditKind}
use Rattle.pd_edit_lines.specs.declared.edit.EditHappening.{EditHappening}
use Rattle.pd_edit_lines.specs.declared.edit.EditHappening.TheVariants as happens
use Rattle.pd_edit_lines.specs.declared.edit.WrittenSupply.{WrittenSupply}
use Rattle.pd_edit_lines.specs.declared.edit.Edit.{Edit}
use Rattle.pd_edit_lines.specs.declared.edit.Edit.TheVariants.{Insert, Remove, Move, Change, Cable, DropCable, Sink, DropSink, Caps, Floor}
use Rattle.pd_edit_lines.specs.declared.edit.Edit.TheVariants.{Budget, End}
use Rattle.pd_scenario.specs.Words.{rating_of}
use Rattle.pd_edit.specs.Edits.{has_cable, has_sink, outcome}

-- ---- 21: no event has the id of a new one

abbrev pub id_is_free : ScenarioData → Edit → Bool
id_is_free c (Insert id at happening) = not (has_id c.events id)
id_is_free c _ = true

-- ---- 22: some event has the id

abbrev pub id_is_known : ScenarioData → Edit → Bool
id_is_known c (Remove id) = has_id c.events id
id_is_known c (Move id at) = has_id c.events id
id_is_known c (Change id kind) = has_id c.events id
id_is_known c _ = true

-- ---- 23: there is such a port; a change of the budget is on none

abbrev pub happens_on_port : ℕ → EditHappening → Bool
happens_on_port n (happens.OnPort port kind) = is_port n port
happens_on_port n (happens.Budget mw) = true

abbrev pub is_on_port : ScenarioHappening → Bool
is_on_port (scenario_happening.OnPort port kind) = true
is_on_port (scenario_happening.Budget mw) = false

abbrev pub port_is_known : ℕ → ScenarioData → Edit → Bool
port_is_known n c (Insert id at happening) = happens_on_port n happening
port_is_known n c (Change id kind) = list_all (λ (e : ScenarioEvent). not (e.id == id) || is_on_port e.happening) c.events
port_is_known n c (Caps port supplies) = is_port n port
port_is_known n c (Floor port mw) = is_port n port
port_is_known n c _ = true

-- ---- 24: a cable or a sink has the name

abbrev pub kind_is_known : ScenarioData → EditKind → Bool
kind_is_known c (Attach cable sink) = has_cable c.cables cable && has_sink c.sinks sink
kind_is_known c _ = true

abbrev pub happening_is_known : ScenarioData → EditHappening → Bool
happening_is_known c (happens.OnPort port kind) = kind_is_known c kind
happening_is_known c (happens.Budget mw) = true

abbrev pub name_is_known : ScenarioData → Edit → Bool
name_is_known c (Insert id at happening) = happening_is_known c happening
name_is_known c (Change id kind) = kind_is_known c kind
name_is_known c (DropCable name) = has_cable c.cables name
name_is_known c (DropSink name) = has_sink c.sinks name
name_is_known c _ = true

-- ---- 25: no event names what is dropped

abbrev pub kind_names_cable : List ℕ → ScenarioEventKind → Bool
kind_names_cable name (Attach cable sink) = bytes_eq cable name
kind_names_cable name _ = false

abbrev pub kind_names_sink : List ℕ → ScenarioEventKind → Bool
kind_names_sink name (Attach cable sink) = bytes_eq sink name
kind_names_sink name _ = false

abbrev pub names_cable : List ℕ → ScenarioHappening → Bool
names_cable name (scenario_happening.OnPort port kind) = kind_names_cable name kind
names_cable name (scenario_happening.Budget mw) = false

abbrev pub names_sink : List ℕ → ScenarioHappening → Bool
names_sink name (scenario_happening.OnPort port kind) = kind_names_sink name kind
names_sink name (scenario_happening.Budget mw) = false

abbrev pub is_unused : ScenarioData → Edit → Bool
is_unused c (DropCable name) = not (list_any (λ (e : ScenarioEvent). names_cable name e.happening) c.events)
is_unused c (DropSink name) = not (list_any (λ (e : ScenarioEvent). names_sink name e.happening) c.events)
is_unused c _ = true

-- ---- 26: the numbers are within their limits

abbrev pub kind_in_range : EditKind → Bool
kind_in_range (Demand mw) = allows quantity.Demand mw
kind_in_range (Damage harm) = allows quantity.DamagePlace harm.place && allows quantity.DamageMask harm.mask
kind_in_range _ = true

abbrev pub happening_in_range : EditHappening → Bool
happening_in_range (happens.OnPort port kind) = kind_in_range kind
happening_in_range (happens.Budget mw) = allows quantity.Budget mw

abbrev pub supply_in_range : WrittenSupply → Bool
supply_in_range supply = allows quantity.Voltage supply.mv && allows quantity.Current supply.ma

abbrev pub in_range : Edit → Bool
in_range (Insert id at happening) = (allows quantity.EventId id && allows quantity.Time at) && happening_in_range happening
in_range (Move id at) = allows quantity.Time at
in_range (Change id kind) = kind_in_range kind
in_range (Cable name plug rating) = is_some (rating_of rating)
in_range (Sink name max_mv demand_mw mode revision) = allows quantity.Voltage max_mv && allows quantity.Demand demand_mw
in_range (Caps port supplies) = list_all supply_in_range supplies.items
in_range (Floor port mw) = allows quantity.Floor mw
in_range (Budget mw) = allows quantity.Budget mw
in_range (End at) = allows quantity.Time at
in_range _ = true

-- ---- 27: the first of the supplies is of 5 V, and the voltages rise

abbrev pub begin_at : ℕ → List WrittenSupply → Bool
begin_at mv [] = false
begin_at mv (supply ∷ supplies) = supply.mv == mv

abbrev pub follows : ℕ → List WrittenSupply → Bool
follows mv [] = true
follows mv (supply ∷ supplies) = nat_lt mv supply.mv

abbrev pub voltages_rise : List WrittenSupply → Bool
voltages_rise [] = true
voltages_rise (supply ∷ supplies) = follows supply.mv supplies && voltages_rise supplies

abbrev pub are_supplies : List WrittenSupply → Bool
are_supplies supplies = (begin_at first_mv supplies && voltages_rise supplies) && nat_le (length supplies) most_supplies

abbrev pub supplies_rise : Edit → Bool
supplies_rise (Caps port supplies) = are_supplies supplies.items
supplies_rise _ = true

-- ---- 28: the floors then add to no more than the least of the budget and its changes

abbrev pub stays_funded : ScenarioData → Edit → Bool
stays_funded c (Insert id at (happens.Budget mw)) = is_funded (outcome c (Insert id at (happens.Budget mw)))
stays_funded c (Floor port mw) = is_funded (outcome c (Floor port mw))
stays_funded c (Budget mw) = is_funded (outcome c (Budget mw))
stays_funded c _ = true

-- ---- 29: there may be one more

abbrev pub has_room : ScenarioData → Edit → Bool
has_room c (Insert id at happening) = nat_lt (length c.events) most_events
has_room c (Cable name plug rating) = has_cable c.cables name || nat_lt (length c.cables) most_names
has_room c (Sink name max_mv demand_mw mode revision) = has_sink c.sinks name || nat_lt (length c.sinks) most_names
has_room c _ = true

-- ---- all

-- an edit of a scenario of n ports is refused for this
abbrev pub refuses : EditFault → ℕ → ScenarioData → Edit → Bool
refuses Syntax n c edit = false
refuses IdTaken n c edit = not (id_is_free c edit)
refuses NoSuchId n c edit = not (id_is_known c edit)
refuses NoSuchPort n c edit = not (port_is_known n c edit)
refuses NoSuchName n c edit = not (name_is_known c edit)
refuses InUse n c edit = not (is_unused c edit)
refuses Range n c edit = not (in_range edit)
refuses Supplies n c edit = not (supplies_rise edit)
refuses Floors n c edit = not (stays_funded c edit)
refuses Limit n c edit = not (has_room c edit)
refuses Memory n c edit = false

-- what an edit may be refused for, in the order of the numbers
abbrev pub refusals : List EditFault
refusals = IdTaken ∷ NoSuchId ∷ NoSuchPort ∷ NoSuchName ∷ InUse ∷ Range ∷ Supplies ∷ Floors ∷ Limit ∷ []

-- the first refusal that applies, or the edited scenario
abbrev pub answered : Option EditFault → ScenarioData → Result ScenarioData EditFault
answered None c = Ok c
answered (Some fault) c = Err fault

unfoldable pub edited : ℕ → ScenarioData → Edit → Result ScenarioData EditFault
edited n c edit = answered (find (λ fault. refuses fault n c edit) refusals) (outcome c edit)

-- What an edit answers: that, and want of memory only where none of the refusals applies.
abbrev pub Applies : Result ScenarioData EditFault → Result ScenarioData EditFault → Type 0
Applies (Err Memory) expected = IsOk expected
Applies answer expected = expected ≡ answer

-- none of the refusals applies
pub record IsAccepted (n : ℕ) (c : ScenarioData) (edit : Edit) : Type 0 where
  pub id_free : id_is_free c edit ≡ true
  pub id_known : id_is_known c edit ≡ true
  pub port_known : port_is_known n c edit ≡ true
  pub name_known : name_is_known c edit ≡ true
  pub unused : is_unused c edit ≡ true
  pub in_range : in_range edit ≡ true
  pub supplies : supplies_rise edit ≡ true
  pub funded : stays_funded c edit ≡ true
  pub room : has_room c edit ≡ true
