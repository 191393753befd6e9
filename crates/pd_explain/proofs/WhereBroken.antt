-- A refusal applies exactly where its rule is broken at some place.
use Rattle.std.proofs.Common.{◌≡◌, ℕ, ◌+◌, ◌≤◌, Bool, true, false, List, [], ◌∷◌, length, map, filter, refl, sym, ap, ◌∙◌, cond, arith}
use Rattle.std.specs.Prelude.{not, ◌&&◌, ◌||◌, ◌==◌, nat_le, nat_lt, is_some}
use Rattle.std.specs.List.{list_any, list_all}
use Rattle.std.proofs.lemmas.Bool.{lt-ltb, le-leb}
use Rattle.pd_setup.specs.declared.event.EventKind.TheVariants as kind
use Rattle.pd_scenario.specs.declared.event.ScenarioEvent.{ScenarioEvent}
use Rattle.pd_scenario.specs.declared.limits.Quantity.TheVariants as quantity
use Rattle.pd_scenario.specs.Scenarios.{ScenarioData, has_id, is_funded}
use Rattle.pd_scenario.specs.Limits.{allows, is_port, first_mv, most_supplies, most_names, most_events}
use Rattle.pd_scenario.specs.Words.{rating_of}
use Rattle.pd_edit_lines.specs.Kinds.{EditKind}
use Rattle.pd_edit_lines.specs.declared.fault.EditFault.{EditFault}
use Rattle.pd_edit_lines.specs.declared.fault.EditFault.TheVariants.{Syntax, IdTaken, NoSuchId, NoSuchPort, NoSuchName, InUse, Range}
use Rattle.pd_edit_lines.specs.declared.fault.EditFault.TheVariants.{Supplies, Floors, Limit, Memory}
use Rattle.pd_edit_lines.specs.declared.edit.EditHappening.{EditHappening}
use Rattle.pd_edit_lines.specs.declared.edit.EditHappening.TheVariants as happens
use Rattle.pd_edit_lines.specs.declared.edit.WrittenSupply.{WrittenSupply}
use Rattle.pd_edit_lines.specs.declared.edit.Edit.{Edit}
use Rattle.pd_edit_lines.specs.declared.edit.Edit.TheVariants.{Insert, Remove, Move, Change, Cable, DropCable, Sink, DropSink, Caps, Floor}
use Rattle.pd_edit_lines.specs.declared.edit.Edit.TheVariants.{Budget, End}
use Rattle.pd_edit.specs.Edits.{has_cable, has_sink, outcome}
use Rattle.pd_edit.specs.Refusals as refusals
use Rattle.pd_explain.specs.Places as places
use Rattle.pd_explain.specs.declared.place.Place.{Place}
use Rattle.pd_explain.specs.declared.place.Place.TheVariants as place
use Rattle.pd_explain.specs.declared.place.Counted.TheVariants as counted

-- ---- tests

one : (b : Bool) → not b ≡ (not b || false)
one true = refl
one false = refl

one_not : (b : Bool) → not (not b) ≡ (b || false)
one_not true = refl
one_not false = refl

two : (a b : Bool) → not (a && b) ≡ (not a || (not b || false))
two true b = one b
two false b = refl

-- two tests and what stands behind them
two_more : (a b c rest : Bool) → not c ≡ rest → not ((a && b) && c) ≡ (not a || (not b || rest))
two_more true true c rest h = h
two_more true false c rest h = refl
two_more false b c rest h = refl

-- ---- the kinds of events

kind_names : (n : ℕ) (c : ScenarioData) (k : EditKind)
    → not (refusals.kind_is_known c k) ≡ list_any (places.is_broken n c) (places.kind_names k)
kind_names n c (kind.Attach cable sink) = two (has_cable c.cables cable) (has_sink c.sinks sink)
kind_names n c kind.Detach = refl
kind_names n c (kind.Demand mw) = refl
kind_names n c kind.Lose = refl
kind_names n c (kind.Damage harm) = refl
kind_names n c kind.GetSource = refl
kind_names n c kind.GetSink = refl

kind_numbers : (n : ℕ) (c : ScenarioData) (k : EditKind)
    → not (refusals.kind_in_range k) ≡ list_any (places.is_broken n c) (places.kind_numbers k)
kind_numbers n c (kind.Attach cable sink) = refl
kind_numbers n c kind.Detach = refl
kind_numbers n c (kind.Demand mw) = one (allows quantity.Demand mw)
kind_numbers n c kind.Lose = refl
kind_numbers n c (kind.Damage harm) = two (allows quantity.DamagePlace harm.place) (allows quantity.DamageMask harm.mask)
kind_numbers n c kind.GetSource = refl
kind_numbers n c kind.GetSink = refl

happening_ports : (n : ℕ) (c : ScenarioData) (h : EditHappening)
    → not (refusals.happens_on_port n h) ≡ list_any (places.is_broken n c) (places.happening_ports h)
happening_ports n c (happens.OnPort port k) = one _
happening_ports n c (happens.Budget mw) = refl

happening_names : (n : ℕ) (c : ScenarioData) (h : EditHappening)
    → not (refusals.happening_is_known c h) ≡ list_any (places.is_broken n c) (places.happening_names h)
happening_names n c (happens.OnPort port k) = kind_names n c k
happening_names n c (happens.Budget mw) = refl

happening_numbers : (n : ℕ) (c : ScenarioData) (h : EditHappening)
    → not (refusals.happening_in_range h) ≡ list_any (places.is_broken n c) (places.happening_numbers h)
happening_numbers n c (happens.OnPort port k) = kind_numbers n c k
happening_numbers n c (happens.Budget mw) = one (allows quantity.Budget mw)

-- ---- lists of events and supplies

user_first : (n : ℕ) (c : ScenarioData) (b any : Bool) (e : ScenarioEvent) (es : List ScenarioEvent)
    → any ≡ list_any (places.is_broken n c) (map places.user es)
    → (b || any) ≡ list_any (places.is_broken n c) (map places.user (cond b (e ∷ es) es))
user_first n c true any e es h = refl
user_first n c false any e es h = h

users : (n : ℕ) (c : ScenarioData) (p : ScenarioEvent → Bool) (es : List ScenarioEvent)
    → list_any p es ≡ list_any (places.is_broken n c) (map places.user (filter p es))
users n c p [] = refl
users n c p (e ∷ es) = user_first n c (p e) (list_any p es) e (filter p es) (users n c p es)

not_not : (b : Bool) → not (not b) ≡ b
not_not true = refl
not_not false = refl

supply_numbers : (n : ℕ) (c : ScenarioData) (first : ℕ) (ss : List WrittenSupply)
    → not (list_all refusals.supply_in_range ss) ≡ list_any (places.is_broken n c) (places.supply_numbers first ss)
supply_numbers n c first [] = refl
supply_numbers n c first (s ∷ ss) =
    two_more (allows quantity.Voltage s.mv) (allows quantity.Current s.ma) (list_all refusals.supply_in_range ss)
    (list_any (places.is_broken n c) (places.supply_numbers (first + 1) ss)) (supply_numbers n c (first + 1) ss)

either : (a b rest : Bool) → not b ≡ rest → not (a && b) ≡ (not a || rest)
either true b rest h = h
either false b rest h = refl

later : (n : ℕ) (c : ScenarioData) (first : ℕ) (s : WrittenSupply) (ss : List WrittenSupply)
    → not (refusals.voltages_rise (s ∷ ss)) ≡ list_any (places.is_broken n c) (places.later_supplies first s.mv ss)
later n c first s [] = refl
later n c first s (t ∷ ss) =
    either (refusals.follows s.mv (t ∷ ss)) (refusals.voltages_rise (t ∷ ss))
    (list_any (places.is_broken n c) (places.later_supplies (first + 1) t.mv ss)) (later n c (first + 1) t ss)

-- the first, those behind it, and their count
three : (a b k rest : Bool) → not b ≡ rest → not ((a && b) && k) ≡ (not k || (not a || rest))
three true true true rest h = h
three true true false rest h = refl
three true false true rest h = h
three true false false rest h = refl
three false b true rest h = refl
three false b false rest h = refl

counts : (len : ℕ) → 1 ≤ len → nat_le len most_supplies ≡ (nat_le 1 len && nat_le len most_supplies)
counts len h = rw (le-leb 1 len h) refl

supplies : (n : ℕ) (c : ScenarioData) (ss : List WrittenSupply)
    → not (refusals.are_supplies ss) ≡ list_any (places.is_broken n c) (place.SupplyCount (length ss) ∷ places.voltages ss)
supplies n c [] = refl
supplies n c (s ∷ ss) =
    ap (λ k. not ((s.mv == first_mv && refusals.voltages_rise (s ∷ ss)) && k)) (counts (length (s ∷ ss)) (omega arith))
    ∙ three (s.mv == first_mv) (refusals.voltages_rise (s ∷ ss)) (nat_le 1 (length (s ∷ ss)) && nat_le (length (s ∷ ss)) most_supplies)
    (list_any (places.is_broken n c) (places.later_supplies 2 s.mv ss)) (later n c 2 s ss)

-- ---- all

taken : (n : ℕ) (c : ScenarioData) (edit : Edit) → not (refusals.id_is_free c edit) ≡ list_any (places.is_broken n c) (places.new_ids edit)
taken n c (Insert id at happening) = one_not (has_id c.events id)
taken n c (Remove id) = refl
taken n c (Move id at) = refl
taken n c (Change id k) = refl
taken n c (Cable name plug rating) = refl
taken n c (DropCable name) = refl
taken n c (Sink name max_mv demand_mw mode revision) = refl
taken n c (DropSink name) = refl
taken n c (Caps port ss) = refl
taken n c (Floor port mw) = refl
taken n c (Budget mw) = refl
taken n c (End at) = refl

unknown : (n : ℕ) (c : ScenarioData) (edit : Edit)
    → not (refusals.id_is_known c edit) ≡ list_any (places.is_broken n c) (places.known_ids edit)
unknown n c (Insert id at happening) = refl
unknown n c (Remove id) = one (has_id c.events id)
unknown n c (Move id at) = one (has_id c.events id)
unknown n c (Change id k) = one (has_id c.events id)
unknown n c (Cable name plug rating) = refl
unknown n c (DropCable name) = refl
unknown n c (Sink name max_mv demand_mw mode revision) = refl
unknown n c (DropSink name) = refl
unknown n c (Caps port ss) = refl
unknown n c (Floor port mw) = refl
unknown n c (Budget mw) = refl
unknown n c (End at) = refl

no_port : (n : ℕ) (c : ScenarioData) (edit : Edit)
    → not (refusals.port_is_known n c edit) ≡ list_any (places.is_broken n c) (places.ports edit)
no_port n c (Insert id at happening) = happening_ports n c happening
no_port n c (Remove id) = refl
no_port n c (Move id at) = refl
no_port n c (Change id k) = one (refusals.port_is_known n c (Change id k))
no_port n c (Cable name plug rating) = refl
no_port n c (DropCable name) = refl
no_port n c (Sink name max_mv demand_mw mode revision) = refl
no_port n c (DropSink name) = refl
no_port n c (Caps port ss) = one (is_port n port)
no_port n c (Floor port mw) = one (is_port n port)
no_port n c (Budget mw) = refl
no_port n c (End at) = refl

no_name : (n : ℕ) (c : ScenarioData) (edit : Edit)
    → not (refusals.name_is_known c edit) ≡ list_any (places.is_broken n c) (places.names edit)
no_name n c (Insert id at happening) = happening_names n c happening
no_name n c (Remove id) = refl
no_name n c (Move id at) = refl
no_name n c (Change id k) = kind_names n c k
no_name n c (Cable name plug rating) = refl
no_name n c (DropCable name) = one (has_cable c.cables name)
no_name n c (Sink name max_mv demand_mw mode revision) = refl
no_name n c (DropSink name) = one (has_sink c.sinks name)
no_name n c (Caps port ss) = refl
no_name n c (Floor port mw) = refl
no_name n c (Budget mw) = refl
no_name n c (End at) = refl

used : (n : ℕ) (c : ScenarioData) (edit : Edit) → not (refusals.is_unused c edit) ≡ list_any (places.is_broken n c) (places.users c edit)
used n c (Insert id at happening) = refl
used n c (Remove id) = refl
used n c (Move id at) = refl
used n c (Change id k) = refl
used n c (Cable name plug rating) = refl
used n c (DropCable name) =
    not_not (list_any (λ (e : ScenarioEvent). refusals.names_cable name e.happening) c.events)
    ∙ users n c (λ (e : ScenarioEvent). refusals.names_cable name e.happening) c.events
used n c (Sink name max_mv demand_mw mode revision) = refl
used n c (DropSink name) =
    not_not (list_any (λ (e : ScenarioEvent). refusals.names_sink name e.happening) c.events)
    ∙ users n c (λ (e : ScenarioEvent). refusals.names_sink name e.happening) c.events
used n c (Caps port ss) = refl
used n c (Floor port mw) = refl
used n c (Budget mw) = refl
used n c (End at) = refl

out : (n : ℕ) (c : ScenarioData) (edit : Edit) → not (refusals.in_range edit) ≡ list_any (places.is_broken n c) (places.numbers edit)
out n c (Insert id at happening) =
    two_more (allows quantity.EventId id) (allows quantity.Time at) (refusals.happening_in_range happening)
    (list_any (places.is_broken n c) (places.happening_numbers happening)) (happening_numbers n c happening)
out n c (Remove id) = refl
out n c (Move id at) = one (allows quantity.Time at)
out n c (Change id k) = kind_numbers n c k
out n c (Cable name plug rating) = one (is_some (rating_of rating))
out n c (DropCable name) = refl
out n c (Sink name max_mv demand_mw mode revision) = two (allows quantity.Voltage max_mv) (allows quantity.Demand demand_mw)
out n c (DropSink name) = refl
out n c (Caps port ss) = supply_numbers n c 1 ss.items
out n c (Floor port mw) = one (allows quantity.Floor mw)
out n c (Budget mw) = one (allows quantity.Budget mw)
out n c (End at) = one (allows quantity.Time at)

fall : (n : ℕ) (c : ScenarioData) (edit : Edit)
    → not (refusals.supplies_rise edit) ≡ list_any (places.is_broken n c) (places.supplies_of edit)
fall n c (Insert id at happening) = refl
fall n c (Remove id) = refl
fall n c (Move id at) = refl
fall n c (Change id k) = refl
fall n c (Cable name plug rating) = refl
fall n c (DropCable name) = refl
fall n c (Sink name max_mv demand_mw mode revision) = refl
fall n c (DropSink name) = refl
fall n c (Caps port ss) = supplies n c ss.items
fall n c (Floor port mw) = refl
fall n c (Budget mw) = refl
fall n c (End at) = refl

unfunded : (n : ℕ) (c : ScenarioData) (edit : Edit)
    → not (refusals.stays_funded c edit) ≡ list_any (places.is_broken n c) (places.funds c edit)
unfunded n c (Insert id at (happens.OnPort port k)) = refl
unfunded n c (Insert id at (happens.Budget mw)) = one (is_funded (outcome c (Insert id at (happens.Budget mw))))
unfunded n c (Remove id) = refl
unfunded n c (Move id at) = refl
unfunded n c (Change id k) = refl
unfunded n c (Cable name plug rating) = refl
unfunded n c (DropCable name) = refl
unfunded n c (Sink name max_mv demand_mw mode revision) = refl
unfunded n c (DropSink name) = refl
unfunded n c (Caps port ss) = refl
unfunded n c (Floor port mw) = one (is_funded (outcome c (Floor port mw)))
unfunded n c (Budget mw) = one (is_funded (outcome c (Budget mw)))
unfunded n c (End at) = refl

room_for : (n : ℕ) (c : ScenarioData) (p : Place) (a b : Bool) → places.is_broken n c p ≡ not b
    → not (a || b) ≡ list_any (places.is_broken n c) (cond a [] (p ∷ []))
room_for n c p true b h = refl
room_for n c p false b h = one b ∙ ap (λ v. v || false) (sym h)

full : (n : ℕ) (c : ScenarioData) (edit : Edit) → not (refusals.has_room c edit) ≡ list_any (places.is_broken n c) (places.rooms c edit)
full n c (Insert id at happening) = one (nat_lt (length c.events) most_events)
full n c (Remove id) = refl
full n c (Move id at) = refl
full n c (Change id k) = refl
full n c (Cable name plug rating) =
    room_for n c (place.Room counted.Cables (length c.cables)) (has_cable c.cables name) (nat_lt (length c.cables) most_names) refl
full n c (DropCable name) = refl
full n c (Sink name max_mv demand_mw mode revision) =
    room_for n c (place.Room counted.Sinks (length c.sinks)) (has_sink c.sinks name) (nat_lt (length c.sinks) most_names) refl
full n c (DropSink name) = refl
full n c (Caps port ss) = refl
full n c (Floor port mw) = refl
full n c (Budget mw) = refl
full n c (End at) = refl

pub refused_where_broken : (fault : EditFault) (n : ℕ) (c : ScenarioData) (edit : Edit)
    → refusals.refuses fault n c edit ≡ list_any (places.is_broken n c) (places.places_of fault c edit)
refused_where_broken Syntax n c edit = refl
refused_where_broken IdTaken n c edit = taken n c edit
refused_where_broken NoSuchId n c edit = unknown n c edit
refused_where_broken NoSuchPort n c edit = no_port n c edit
refused_where_broken NoSuchName n c edit = no_name n c edit
refused_where_broken InUse n c edit = used n c edit
refused_where_broken Range n c edit = out n c edit
refused_where_broken Supplies n c edit = fall n c edit
refused_where_broken Floors n c edit = unfunded n c edit
refused_where_broken Limit n c edit = full n c edit
refused_where_broken Memory n c edit = refl

-- ---- some place is broken where the list of those that are isn't empty

some_first : {X : Type 0} (b any : Bool) (x : X) (xs : List X) → any ≡ nat_lt 0 (length xs)
    → (b || any) ≡ nat_lt 0 (length (cond b (x ∷ xs) xs))
some_first true any x xs h = sym (lt-ltb 0 (length (x ∷ xs)) (omega arith))
some_first false any x xs h = h

some_filtered : {X : Type 0} (p : X → Bool) (xs : List X) → list_any p xs ≡ nat_lt 0 (length (filter p xs))
some_filtered p [] = refl
some_filtered p (x ∷ xs) = some_first (p x) (list_any p xs) x (filter p xs) (some_filtered p xs)

pub causes_some : (fault : EditFault) (n : ℕ) (c : ScenarioData) (edit : Edit)
    → refusals.refuses fault n c edit ≡ nat_lt 0 (length (places.causes fault n c edit))
causes_some fault n c edit =
    refused_where_broken fault n c edit ∙ some_filtered (places.is_broken n c) (places.places_of fault c edit)
