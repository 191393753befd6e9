-- What a scenario says that is surely not meant, its run apart.
use Rattle.std.specs.Prelude.{ℕ, ◌+◌, ◌-◌, ◌*◌, max, nat_le, nat_lt, Bool, true, false, ◌&&◌, List, [], ◌∷◌, ◌++◌, fold, Option, None, Some}
use Rattle.std.specs.Prelude.{bytes_eq, slice_get, if◌then◌else◌}
use Rattle.std.specs.Option.{option_map_or}
use Rattle.std.specs.List.{filter_map, flat_map, list_all, list_any}
use Rattle.pd_objects.specs.Supply.{SupplyData}
use Rattle.pd_setup.specs.Settings.{SettingsData}
use Rattle.pd_setup.specs.Sinks.{SinkData}
use Rattle.pd_setup.specs.declared.sink.SinkMode.{SinkMode}
use Rattle.pd_setup.specs.declared.sink.SinkMode.TheVariants.{Plain}
use Rattle.pd_setup.specs.declared.event.EventKind.TheVariants.{Attach}
use Rattle.pd_scenario.specs.Events.{ScenarioEventKind}
use Rattle.pd_scenario.specs.Scenarios.{ScenarioData, budget_of, floors_mw, sink_named}
use Rattle.pd_scenario.specs.declared.event.ScenarioEvent.{ScenarioEvent}
use Rattle.pd_scenario.specs.declared.event.ScenarioHappening.{ScenarioHappening}
use Rattle.pd_scenario.specs.declared.event.ScenarioHappening.TheVariants.{OnPort, Budget}
use Rattle.pd_scenario.specs.declared.named.NamedCable.{NamedCable}
use Rattle.pd_scenario.specs.declared.named.NamedSink.{NamedSink}
use Rattle.pd_warn.specs.declared.warning.Warning.{Warning}
use Rattle.pd_warn.specs.declared.warning.Warning.TheVariants.{AfterEnd, SmallShare, Uncounted, UnusedCable, UnusedSink}

-- ---- events after the end

abbrev pub late_part : ℕ → ScenarioEvent → List Warning
late_part end e = if nat_lt end e.at then AfterEnd e.id e.at end ∷ [] else []

-- ---- names that no attach has

abbrev pub kind_has_cable : List ℕ → ScenarioEventKind → Bool
kind_has_cable name (Attach cable sink) = bytes_eq cable name
kind_has_cable name _ = false

abbrev pub has_cable : List ℕ → ScenarioHappening → Bool
has_cable name (OnPort port kind) = kind_has_cable name kind
has_cable name (Budget mw) = false

abbrev pub kind_has_sink : List ℕ → ScenarioEventKind → Bool
kind_has_sink name (Attach cable sink) = bytes_eq sink name
kind_has_sink name _ = false

abbrev pub has_sink : List ℕ → ScenarioHappening → Bool
has_sink name (OnPort port kind) = kind_has_sink name kind
has_sink name (Budget mw) = false

abbrev pub cable_part : List ScenarioEvent → NamedCable → List Warning
cable_part events c =
    if list_any (λ (e : ScenarioEvent). has_cable c.name e.happening) events then [] else UnusedCable c.name ∷ []

abbrev pub sink_part : List ScenarioEvent → NamedSink → List Warning
sink_part events s =
    if list_any (λ (e : ScenarioEvent). has_sink s.name e.happening) events then [] else UnusedSink s.name ∷ []

-- ---- what is left for a port

-- the budget that an event changes to in the run, which is up to the end, in mW
abbrev pub budget_by : ℕ → ScenarioEvent → Option ℕ
budget_by end e = if nat_le e.at end then budget_of e else None

-- The greatest of the budget at the start and of those that events change to in the run, in mW. The law `budgets_are_greatest` says
-- which one that is.
abbrev pub greatest_budget : ℕ → ℕ → List ScenarioEvent → ℕ
greatest_budget mw end events = fold max mw (filter_map (budget_by end) events)

-- the share that the floors of the other ports leave, in microwatts; all floors are so many mW
abbrev pub share_of : ℕ → ℕ → SettingsData → ℕ
share_of budget_mw floors s = (budget_mw - (floors - s.floor_mw)) * 1000

-- a supply's voltage in mV times its current in mA is its power in microwatts
abbrev pub each_wants_more : ℕ → SettingsData → Bool
each_wants_more share s = list_all (λ (supply : SupplyData). nat_lt share (supply.mv * supply.ma)) s.supplies

abbrev pub share_part : ℕ → ℕ → ℕ → SettingsData → List Warning
share_part budget_mw floors port s =
    let share = share_of budget_mw floors s in
    if each_wants_more share s then SmallShare port share ∷ [] else []

-- the ports, the first of which has this number
unfoldable pub shares_part : ℕ → ℕ → ℕ → List SettingsData → List Warning
shares_part budget_mw floors port [] = []
shares_part budget_mw floors port (s ∷ ss) = share_part budget_mw floors port s ++ shares_part budget_mw floors (port + 1) ss

-- ---- what nothing counts

-- the floor of a port, numbered from 1, in mW
abbrev pub floor_at : List SettingsData → ℕ → ℕ
floor_at ss port = option_map_or (λ (s : SettingsData). s.floor_mw) (slice_get ss (port - 1)) 0

-- it doesn't speak Power Delivery
abbrev pub is_plain : SinkMode → Bool
is_plain Plain = true
is_plain _ = false

-- A port holds its floor of the budget for a sink that doesn't speak Power Delivery, and no more; so it is told where the sink wants more.
abbrev pub plain_part : ScenarioEvent → ℕ → List ℕ → ℕ → Option SinkData → List Warning
plain_part e port name floor None = []
plain_part e port name floor (Some s) =
    if is_plain s.mode && nat_lt floor s.demand_mw then Uncounted e.id e.at port name s.demand_mw floor ∷ [] else []

abbrev pub kind_plain : ScenarioData → ScenarioEvent → ℕ → ScenarioEventKind → List Warning
kind_plain c e port (Attach cable sink) = plain_part e port sink (floor_at c.settings port) (sink_named c.sinks sink)
kind_plain c e port _ = []

abbrev pub happening_plain : ScenarioData → ScenarioEvent → ScenarioHappening → List Warning
happening_plain c e (OnPort port kind) = kind_plain c e port kind
happening_plain c e (Budget mw) = []

-- an event after the end attaches nothing
abbrev pub uncounted_part : ScenarioData → ScenarioEvent → List Warning
uncounted_part c e = if nat_lt c.end_us e.at then [] else happening_plain c e e.happening

-- ---- all of it

unfoldable pub stated : ScenarioData → List Warning
stated c =
    flat_map (late_part c.end_us) c.events
    ++ (flat_map (cable_part c.events) c.cables
    ++ (flat_map (sink_part c.events) c.sinks
    ++ (shares_part (greatest_budget c.budget_mw c.end_us c.events) (floors_mw c.settings) 1 c.settings
    ++ flat_map (uncounted_part c) c.events)))
