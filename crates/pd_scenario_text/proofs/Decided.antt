-- Which refusal is answered.
use Rattle.std.proofs.Common.{◌≡◌, ℕ, Bool, true, false, not, ◌||◌, ◌&&◌, cond, List, find, refl, sym, ap, subst, ◌∙◌, Some, None, Ok, Err}
use Rattle.std.specs.Prelude.{Option, Result}
use Rattle.std.specs.List.{list_all}
use Rattle.pd_scenario.specs.Scenarios.{ScenarioData, IsValid, names_differ, ids_differ, names_are_known, least_budget, are_funded}
use Rattle.pd_setup.specs.Settings.{SettingsData}
use Rattle.pd_scenario.specs.declared.named.NamedCable.{NamedCable}
use Rattle.pd_scenario.specs.declared.named.NamedSink.{NamedSink}
use Rattle.pd_scenario.specs.declared.event.ScenarioEvent.{ScenarioEvent}
use Rattle.pd_scenario_tables.specs.declared.fault.ScenarioFault.{ScenarioFault}
use Rattle.pd_scenario_tables.specs.declared.fault.ScenarioFault.TheVariants.{Toml, UnknownKey, WrongType, MissingKey, Range, Name}
use Rattle.pd_scenario_tables.specs.declared.fault.ScenarioFault.TheVariants.{Duplicate, Supplies, Floors, UnknownName, Limit, Memory}
use Rattle.pd_scenario_text.specs.Names.{cable_names, sink_names, name_check}
use Rattle.pd_scenario_text.specs.FileTables.{Tables, scenario_of}
use Rattle.pd_scenario_text.specs.Refusals.{fails_somewhere, table_refusals, has_duplicate, has_unknown_name, exceeds_budget, exceed_limits}
use Rattle.pd_scenario_text.specs.Refusals.{exceeds_limit, refusal}
use Rattle.pd_scenario_text.specs.Reading.{Answers, answered}

-- no refusal of single tables applies, up to the names
pub record Clean (ports : ℕ) (d : Tables) : Type 0 where
  pub keys : fails_somewhere UnknownKey ports d ≡ false
  pub types : fails_somewhere WrongType ports d ≡ false
  pub complete : fails_somewhere MissingKey ports d ≡ false
  pub ranged : fails_somewhere Range ports d ≡ false
  pub named : fails_somewhere Name ports d ≡ false

five : (a b c d e : Bool) (rest : Option ScenarioFault) (fault : ScenarioFault)
    → cond a (Some UnknownKey) (cond b (Some WrongType) (cond c (Some MissingKey) (cond d (Some Range) (cond e (Some Name) None)))) ≡ Some
    fault
    → cond a (Some UnknownKey) (cond b (Some WrongType) (cond c (Some MissingKey) (cond d (Some Range) (cond e (Some Name) rest)))) ≡ Some
    fault
five true b c d e rest fault h = h
five false true c d e rest fault h = h
five false false true d e rest fault h = h
five false false false true e rest fault h = h
five false false false false true rest fault h = h
five false false false false false rest fault h = absurd (cc)

none_of : (a b c d e : Bool)
    → cond a (Some UnknownKey) (cond b (Some WrongType) (cond c (Some MissingKey) (cond d (Some Range) (cond e (Some Name) None)))) ≡ None
    → (a ≡ false) × (b ≡ false) × (c ≡ false) × (d ≡ false) × (e ≡ false)
none_of true b c d e h = absurd (cc)
none_of false true c d e h = absurd (cc)
none_of false false true d e h = absurd (cc)
none_of false false false true e h = absurd (cc)
none_of false false false false true h = absurd (cc)
none_of false false false false false h = (refl, refl, refl, refl, refl)

pub clean : (ports : ℕ) (d : Tables) → find (λ fault. fails_somewhere fault ports d) table_refusals ≡ None → Clean ports d
clean ports d h =
    let all = none_of (fails_somewhere UnknownKey ports d) (fails_somewhere WrongType ports d) (fails_somewhere MissingKey ports d)
    (fails_somewhere Range ports d) (fails_somewhere Name ports d) h in
    record { keys = all.0; types = all.1; complete = all.2; ranged = all.3; named = all.4 }

-- a refusal is an answer where it is the expected one
pub answers_fault : (fault : ScenarioFault) (expected : Result ScenarioData ScenarioFault) → expected ≡ Err fault
    → Answers (Err fault) expected
answers_fault Toml expected h = h
answers_fault UnknownKey expected h = h
answers_fault WrongType expected h = h
answers_fault MissingKey expected h = h
answers_fault Range expected h = h
answers_fault Name expected h = h
answers_fault Duplicate expected h = h
answers_fault Supplies expected h = h
answers_fault Floors expected h = h
answers_fault UnknownName expected h = h
answers_fault Limit expected h = h
answers_fault Memory expected h = tt

answers_some : (fault : ScenarioFault) (o : Option ScenarioFault) (c : ScenarioData) → o ≡ Some fault → Answers (Err fault) (answered o c)
answers_some fault o c h = answers_fault fault (answered o c) (rw h)

pub refused_first : (ports : ℕ) (d : Tables) (fault : ScenarioFault) → find (λ f. fails_somewhere f ports d) table_refusals ≡ Some fault
    → Answers (Err fault) (answered (refusal ports d) (scenario_of d))
refused_first ports d fault h =
    answers_some fault (refusal ports d) (scenario_of d)
    (five (fails_somewhere UnknownKey ports d) (fails_somewhere WrongType ports d) (fails_somewhere MissingKey ports d)
    (fails_somewhere Range ports d) (fails_somewhere Name ports d) _ fault h)

-- ---- what stands after the tables

repeated : (a b d known : Bool) → cond (a && (b && d)) (Some known) None ≡ None → (not a || (not b || not d)) ≡ true
repeated true true true known h = absurd (cc)
repeated true true false known h = refl
repeated true false d known h = refl
repeated false b d known h = refl

apart : (a b d all known : Bool) → cond (a && (b && d)) (Some all) None ≡ Some known → ((not a || (not b || not d)) ≡ false) × (all ≡ known)
apart true true true all known h = (refl, cc)
apart true true false all known h = absurd (cc)
apart true false d all known h = absurd (cc)
apart false b d all known h = absurd (cc)

pub no_check : (c : ScenarioData) → name_check c.cables c.sinks c.events ≡ None → has_duplicate c ≡ true
unfolding has_duplicate
no_check c h =
    repeated (names_differ (cable_names c.cables)) (names_differ (sink_names c.sinks)) (ids_differ c.events)
    (list_all (λ (e : ScenarioEvent). names_are_known c.cables c.sinks e.happening) c.events) h

pub record Checked (c : ScenarioData) (known : Bool) : Type 0 where
  pub single : has_duplicate c ≡ false
  pub unknown : has_unknown_name c ≡ not known

pub a_check : (c : ScenarioData) (known : Bool) → name_check c.cables c.sinks c.events ≡ Some known → Checked c known
unfolding has_duplicate has_unknown_name
a_check c known h =
    let both = apart (names_differ (cable_names c.cables)) (names_differ (sink_names c.sinks)) (ids_differ c.events)
    (list_all (λ (e : ScenarioEvent). names_are_known c.cables c.sinks e.happening) c.events) known h in
    record { single = both.0; unknown = ap not both.1 }

-- the refusals after those of the tables, by the first that applies
pub record Later (ports : ℕ) (d : Tables) : Type 0 where
  pub tables : Clean ports d
  pub single : has_duplicate (scenario_of d) ≡ false
  pub supplied : fails_somewhere Supplies ports d ≡ false

pub refused_duplicate : (ports : ℕ) (d : Tables) → Clean ports d → has_duplicate (scenario_of d) ≡ true
    → answered (refusal ports d) (scenario_of d) ≡ Err Duplicate
refused_duplicate ports d h here = rw (h.keys, h.types, h.complete, h.ranged, h.named, here)

pub refused_supplies : (ports : ℕ) (d : Tables) → Clean ports d → has_duplicate (scenario_of d) ≡ false
    → fails_somewhere Supplies ports d ≡ true → answered (refusal ports d) (scenario_of d) ≡ Err Supplies
refused_supplies ports d h single here = rw (h.keys, h.types, h.complete, h.ranged, h.named, single, here)

pub refused_floors : (ports : ℕ) (d : Tables) → Later ports d → exceeds_budget (scenario_of d) ≡ true
    → answered (refusal ports d) (scenario_of d) ≡ Err Floors
refused_floors ports d l here =
    let h = l.tables in
    rw (h.keys, h.types, h.complete, h.ranged, h.named, l.single, l.supplied, here)

pub refused_unknown : (ports : ℕ) (d : Tables) → Later ports d → exceeds_budget (scenario_of d) ≡ false
    → has_unknown_name (scenario_of d) ≡ true → answered (refusal ports d) (scenario_of d) ≡ Err UnknownName
refused_unknown ports d l funded here =
    let h = l.tables in
    rw (h.keys, h.types, h.complete, h.ranged, h.named, l.single, l.supplied, funded, here)

-- no refusal but that of the numbers of things applies
pub record Last (ports : ℕ) (d : Tables) : Type 0 where
  pub later : Later ports d
  pub funded : exceeds_budget (scenario_of d) ≡ false
  pub known : has_unknown_name (scenario_of d) ≡ false

pub refused_limit : (ports : ℕ) (d : Tables) → Last ports d → exceeds_limit ports (scenario_of d) ≡ true
    → answered (refusal ports d) (scenario_of d) ≡ Err Limit
refused_limit ports d l here =
    let h = l.later.tables in
    rw (h.keys, h.types, h.complete, h.ranged, h.named, l.later.single, l.later.supplied, l.funded, l.known, here)

pub accepted : (ports : ℕ) (d : Tables) → Last ports d → exceeds_limit ports (scenario_of d) ≡ false → refusal ports d ≡ None
accepted ports d l few =
    let h = l.later.tables in
    rw (h.keys, h.types, h.complete, h.ranged, h.named, l.later.single, l.later.supplied, l.funded, l.known, few)

-- ---- the parts that the code has are those of the tables

pub same_check : (c : ScenarioData) (cables : List NamedCable) (sinks : List NamedSink) (events : List ScenarioEvent) (r : Option Bool)
    → cables ≡ c.cables → sinks ≡ c.sinks → events ≡ c.events
    → r ≡ name_check cables sinks events → name_check c.cables c.sinks c.events ≡ r
same_check c cables sinks events r a b e is = sym (is ∙ rw (a, b, e) refl)

pub same_funded : (c : ScenarioData) (settings : List SettingsData) (events : List ScenarioEvent) (mw least : ℕ) (r : Bool)
    → settings ≡ c.settings → events ≡ c.events → mw ≡ c.budget_mw
    → least ≡ least_budget mw events → r ≡ are_funded settings least → exceeds_budget c ≡ not r
unfolding exceeds_budget
same_funded c settings events mw least r a b e is_least is = ap not (sym (is ∙ rw (is_least, a, b, e) refl))

pub same_limit : (ports : ℕ) (c : ScenarioData) (settings : List SettingsData) (cables : List NamedCable) (sinks : List NamedSink)
    (events : List ScenarioEvent) (r : Bool) → settings ≡ c.settings → cables ≡ c.cables
    → sinks ≡ c.sinks → events ≡ c.events → r ≡ exceed_limits ports settings cables sinks events → exceeds_limit ports c ≡ r
same_limit ports c settings cables sinks events r a b e f is = sym (is ∙ rw (a, b, e, f) refl)

pub same_contents : (c : ScenarioData) (settings : List SettingsData) (cables : List NamedCable) (sinks : List NamedSink)
    (events : List ScenarioEvent) (mw end : ℕ) → settings ≡ c.settings → cables ≡ c.cables
    → sinks ≡ c.sinks → events ≡ c.events → mw ≡ c.budget_mw → end ≡ c.end_us
    → c ≡ record { settings = settings; cables = cables; sinks = sinks; events = events; budget_mw = mw; end_us = end }
same_contents c settings cables sinks events mw end a b e f m t = rw (a, b, e, f, m, t) refl

pub same_valid : (ports : ℕ) (c k : ScenarioData) → c ≡ k → IsValid ports c → IsValid ports k
same_valid ports c k is h = let P : ScenarioData → Type 0 = λ x. IsValid ports x in subst P is h

pub same_answer : (o : Option ScenarioFault) (c k : ScenarioData) → o ≡ None → c ≡ k → answered o c ≡ Ok k
same_answer o c k none is = rw (none, is) refl
