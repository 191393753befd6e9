-- What stands behind each warning.
use Rattle.std.proofs.Common.{◌≡◌, ℕ, suc, ◌+◌, ◌<◌, nat_lt, Bool, true, false, ◌&&◌, Option, None, Some, if◌then◌else◌, List, [], ◌∷◌}
use Rattle.std.proofs.Common.{◌++◌, length, refl, arith}
use Rattle.std.specs.Prelude.{All, slice_index_or}
use Rattle.std.specs.List.{flat_map, list_any}
use Rattle.std.proofs.lemmas.Bool.Decides.{nat_tests}
use Rattle.std.proofs.lemmas.List.Elements.{All-append, All-cons, All-nil, All-weaker}
use Rattle.pd_setup.specs.Settings.{SettingsData}
use Rattle.pd_scenario.specs.declared.event.ScenarioEvent.{ScenarioEvent}
use Rattle.pd_scenario.specs.Plan.{no_settings}
use Rattle.pd_setup.specs.Sinks.{SinkData}
use Rattle.pd_setup.specs.declared.event.EventKind.TheVariants.{Attach, Detach, Demand, Lose, Damage, GetSource, GetSink}
use Rattle.pd_scenario.specs.Events.{ScenarioEventKind}
use Rattle.pd_scenario.specs.Scenarios.{ScenarioData, floors_mw, sink_named}
use Rattle.pd_scenario.specs.declared.event.ScenarioHappening.{ScenarioHappening}
use Rattle.pd_scenario.specs.declared.event.ScenarioHappening.TheVariants.{OnPort, Budget}
use Rattle.pd_warn.specs.declared.warning.Warning.{Warning}
use Rattle.pd_warn.specs.declared.warning.Warning.TheVariants.{AfterEnd, SmallShare, Uncounted, UnusedCable, UnusedSink}
use Rattle.pd_warn.specs.Stated.{cable_part, each_wants_more, greatest_budget, has_cable, has_sink, late_part, share_of, share_part}
use Rattle.pd_warn.specs.Stated.{floor_at, happening_plain, is_plain, kind_plain, plain_part, shares_part, sink_part, stated}
use Rattle.pd_warn.specs.Stated.{uncounted_part}

-- a share is told of one of these ports, the first of which has this number
pub record IsShare (budget_mw floors first : ℕ) (ss : List SettingsData) (port share : ℕ) : Type 0 where
  pub place : ℕ
  pub known : place < length ss
  pub number : port ≡ first + place
  pub share_is : share ≡ share_of budget_mw floors (slice_index_or ss place no_settings)

-- what is so where a warning of what the scenario says is told
abbrev pub Holds : ScenarioData → Warning → Type 0
Holds c (AfterEnd id at end) = end < at
Holds c (UnusedCable name) = list_any (λ (e : ScenarioEvent). has_cable name e.happening) c.events ≡ false
Holds c (UnusedSink name) = list_any (λ (e : ScenarioEvent). has_sink name e.happening) c.events ≡ false
Holds c (SmallShare port share) =
    IsShare (greatest_budget c.budget_mw c.end_us c.events) (floors_mw c.settings) 1 c.settings port share
Holds c (Uncounted id at port name demand floor) = floor < demand
Holds c _ = ⊥

abbrev pub AllHold : ScenarioData → List Warning → Type 0
AllHold c ws = All (Holds c) ws

one : (c : ScenarioData) (w : Warning) → Holds c w → AllHold c (w ∷ [])
one c w h = All-cons (Holds c) w [] h (All-nil (Holds c))

each : {X : Type 0} (c : ScenarioData) (f : X → List Warning) (xs : List X) → ((x : X) → AllHold c (f x)) → AllHold c (flat_map f xs)
each c f [] h = All-nil (Holds c)
each c f (x ∷ xs) h = All-append (Holds c) (f x) (flat_map f xs) (h x) (each c f xs h)

later : (a b : ℕ) → nat_lt a b ≡ true → a < b
later a b h = grind (arith, nat_tests)

late_hold : (c : ScenarioData) (end : ℕ) (e : ScenarioEvent) (b : Bool) → nat_lt end e.at ≡ b
    → AllHold c (if b then AfterEnd e.id e.at end ∷ [] else [])
late_hold c end e true is = one c (AfterEnd e.id e.at end) (later end e.at is)
late_hold c end e false is = All-nil (Holds c)

cable_hold : (c : ScenarioData) (name : List ℕ) (b : Bool) → list_any (λ (e : ScenarioEvent). has_cable name e.happening) c.events ≡ b
    → AllHold c (if b then [] else UnusedCable name ∷ [])
cable_hold c name true is = All-nil (Holds c)
cable_hold c name false is = one c (UnusedCable name) is

sink_hold : (c : ScenarioData) (name : List ℕ) (b : Bool) → list_any (λ (e : ScenarioEvent). has_sink name e.happening) c.events ≡ b
    → AllHold c (if b then [] else UnusedSink name ∷ [])
sink_hold c name true is = All-nil (Holds c)
sink_hold c name false is = one c (UnusedSink name) is

-- ---- what nothing counts

plain_hold : (c : ScenarioData) (e : ScenarioEvent) (port : ℕ) (name : List ℕ) (floor demand : ℕ) (plain above : Bool)
    → nat_lt floor demand ≡ above
    → AllHold c (if plain && above then Uncounted e.id e.at port name demand floor ∷ [] else [])
plain_hold c e port name floor demand true true is =
    one c (Uncounted e.id e.at port name demand floor) (later floor demand is)
plain_hold c e port name floor demand true false is = All-nil (Holds c)
plain_hold c e port name floor demand false above is = All-nil (Holds c)

sink_plain : (c : ScenarioData) (e : ScenarioEvent) (port : ℕ) (name : List ℕ) (floor : ℕ) (s : Option SinkData)
    → AllHold c (plain_part e port name floor s)
sink_plain c e port name floor None = All-nil (Holds c)
sink_plain c e port name floor (Some s) = plain_hold c e port name floor s.demand_mw (is_plain s.mode) _ refl

kind_hold : (c : ScenarioData) (e : ScenarioEvent) (port : ℕ) (kind : ScenarioEventKind) → AllHold c (kind_plain c e port kind)
kind_hold c e port (Attach cable sink) = sink_plain c e port sink (floor_at c.settings port) (sink_named c.sinks sink)
kind_hold c e port Detach = All-nil (Holds c)
kind_hold c e port (Demand mw) = All-nil (Holds c)
kind_hold c e port Lose = All-nil (Holds c)
kind_hold c e port (Damage harm) = All-nil (Holds c)
kind_hold c e port GetSource = All-nil (Holds c)
kind_hold c e port GetSink = All-nil (Holds c)

happening_hold : (c : ScenarioData) (e : ScenarioEvent) (h : ScenarioHappening) → AllHold c (happening_plain c e h)
happening_hold c e (OnPort port kind) = kind_hold c e port kind
happening_hold c e (Budget mw) = All-nil (Holds c)

uncounted_hold : (c : ScenarioData) (e : ScenarioEvent) (b : Bool)
    → AllHold c (if b then [] else happening_plain c e e.happening)
uncounted_hold c e true = All-nil (Holds c)
uncounted_hold c e false = happening_hold c e e.happening

-- ---- shares

abbrev OfShares : ℕ → ℕ → ℕ → List SettingsData → Warning → Type 0
OfShares budget floors first ss (SmallShare port share) = IsShare budget floors first ss port share
OfShares budget floors first ss _ = ⊥

share_holds : (budget floors first : ℕ) (s : SettingsData) (ss : List SettingsData) (b : Bool)
    → All (OfShares budget floors first (s ∷ ss)) (if b then SmallShare first (share_of budget floors s) ∷ [] else [])
share_holds budget floors first s ss true =
    All-cons (OfShares budget floors first (s ∷ ss)) _ []
    (record { place = 0; known = omega arith; number = omega arith; share_is = refl }) (All-nil _)
share_holds budget floors first s ss false = All-nil (OfShares budget floors first (s ∷ ss))

one_further : (budget floors first : ℕ) (s : SettingsData) (ss : List SettingsData) (w : Warning)
    → OfShares budget floors (first + 1) ss w → OfShares budget floors first (s ∷ ss) w
one_further budget floors first s ss (SmallShare port share) h =
    record { place = suc h.place; known = omega (arith, h.known); number = omega (arith, h.number); share_is = h.share_is }
one_further budget floors first s ss _ h = h

shares_hold : (budget floors first : ℕ) (ss : List SettingsData)
    → All (OfShares budget floors first ss) (shares_part budget floors first ss)
unfolding shares_part
shares_hold budget floors first [] = All-nil (OfShares budget floors first [])
shares_hold budget floors first (s ∷ ss) =
    All-append (OfShares budget floors first (s ∷ ss)) (share_part budget floors first s) (shares_part budget floors (first + 1) ss)
    (share_holds budget floors first s ss (each_wants_more (share_of budget floors s) s))
    (All-weaker (OfShares budget floors (first + 1) ss) (OfShares budget floors first (s ∷ ss)) (one_further budget floors first s ss)
    (shares_part budget floors (first + 1) ss) (shares_hold budget floors (first + 1) ss))

of_scenario : (c : ScenarioData) (w : Warning)
    → OfShares (greatest_budget c.budget_mw c.end_us c.events) (floors_mw c.settings) 1 c.settings w → Holds c w
of_scenario c (SmallShare port share) h = h
of_scenario c _ h = absurd h

pub stated_hold : (c : ScenarioData) → AllHold c (stated c)
unfolding stated
stated_hold c =
    let budget = greatest_budget c.budget_mw c.end_us c.events in
    let shares = shares_part budget (floors_mw c.settings) 1 c.settings in
    let plain = flat_map (uncounted_part c) c.events in
    let sinks = flat_map (sink_part c.events) c.sinks in
    let cables = flat_map (cable_part c.events) c.cables in
    All-append (Holds c) (flat_map (late_part c.end_us) c.events) (cables ++ (sinks ++ (shares ++ plain)))
    (each c (late_part c.end_us) c.events (λ e. late_hold c c.end_us e _ refl))
    (All-append (Holds c) cables (sinks ++ (shares ++ plain))
    (each c (cable_part c.events) c.cables (λ cable. cable_hold c cable.name _ refl))
    (All-append (Holds c) sinks (shares ++ plain) (each c (sink_part c.events) c.sinks (λ sink. sink_hold c sink.name _ refl))
    (All-append (Holds c) shares plain
    (All-weaker (OfShares budget (floors_mw c.settings) 1 c.settings) (Holds c) (of_scenario c) shares
    (shares_hold budget (floors_mw c.settings) 1 c.settings))
    (each c (uncounted_part c) c.events (λ e. uncounted_hold c e (nat_lt c.end_us e.at))))))
