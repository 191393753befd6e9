-- What the sound table of an event says is within the limits of a scenario.
use Rattle.std.proofs.Common.{◌≡◌, ℕ, ◌≤◌, true, false, ◌&&◌, [], ◌∷◌, refl, sym, lit<, Some, None}
use Rattle.std.specs.Prelude.{Option, is_none, Contains}
use Rattle.std.proofs.lemmas.Bool.{false≢true, and_from, not-false}
use Rattle.toml.specs.Data.{Data, Members}
use Rattle.pd_setup.specs.Events.{KindWord}
use Rattle.pd_setup.specs.declared.event.EventKind.TheVariants.{Attach, Demand, Damage}
use Rattle.pd_scenario.specs.Limits.{allows, is_port}
use Rattle.pd_scenario.specs.Scenarios.{event_fits, happening_fits, kind_fits}
use Rattle.pd_scenario.specs.declared.limits.Quantity.TheVariants as quantity
use Rattle.pd_scenario_tables.specs.declared.schema.Version.{Version}
use Rattle.pd_scenario_tables.specs.declared.schema.EventName.{EventName}
use Rattle.pd_scenario_tables.specs.declared.schema.EventName.TheVariants as event
use Rattle.pd_scenario_tables.specs.declared.schema.TableKind.TheVariants.{Event}
use Rattle.pd_scenario_tables.specs.declared.schema.Key.TheVariants as key
use Rattle.pd_scenario_tables.specs.declared.schema.Need.TheVariants.{Required}
use Rattle.pd_scenario_tables.specs.declared.schema.Form.TheVariants as form
use Rattle.pd_scenario_tables.specs.Schema.{rule, any_event, on_port, kind_rules, unknown_rules, event_rules}
use Rattle.pd_scenario_tables.specs.declared.schema.Rule.{Rule}
use Rattle.pd_scenario_tables.specs.Words.{event_named}
use Rattle.pd_scenario_tables.specs.Values.{word_of, is_known}
use Rattle.pd_scenario_tables.specs.Tables.{value_at, number_at, word_in, value_fails, event_at, is_sound, is_sound_event}
use Rattle.pd_scenario_tables.specs.Convert.{kind_in, happening_of, event_of}
use Rattle.pd_scenario_tables.proofs.Sound.{Holds, holds, needed, port_needed, first, behind}
use Rattle.pd_scenario_tables.proofs.Parts.{attach_named, demand_allowed, damage_allowed, budget_allowed}

known_in : (version : Version) (o : Option Data) → (true && is_none o) ≡ false
    → value_fails (λ d. is_known (event_named version (word_of d))) o ≡ false
    → is_known (event_named version (word_in o)) ≡ true
known_in version None there h = absurd (false≢true (sym there))
known_in version (Some d) there h = not-false (is_known (event_named version (word_of d))) h

-- ---- the rules of all events, and those of all that happen on a port, are among those of each

in_kind : (kind : KindWord) (r : Rule) → Contains on_port r → Contains (kind_rules kind) r
in_kind (Attach cable sink) r h = behind r (rule key.Cable Required form.Name ∷ rule key.Sink Required form.Name ∷ []) on_port h
in_kind (Demand power) r h = behind r (rule key.Mw Required (form.Number quantity.Demand) ∷ []) on_port h
in_kind (Damage harm) r h =
    behind r (rule key.Place Required (form.Number quantity.DamagePlace) ∷ rule key.Mask Required (form.Number quantity.DamageMask) ∷ [])
    on_port h
in_kind _ r h = h

on_each : (r : Rule) → Contains any_event r → Contains on_port r
on_each r h = behind r (rule key.Port Required form.PortNumber ∷ []) any_event h

in_event : (name : EventName) (r : Rule) → Contains any_event r → Contains (event_rules name) r
in_event (event.OnPort kind) r h = in_kind kind r (on_each r h)
in_event event.Budget r h = behind r (rule key.Mw Required (form.Number quantity.Budget) ∷ []) any_event h
in_event event.Unknown r h = behind r unknown_rules on_port (on_each r h)

-- what a sound table says of a rule of all events
of_any : (version : Version) (ports : ℕ) (name : EventName) (t : Members) (r : Rule) → is_sound version ports (Event name) t ≡ true
    → Contains any_event r → Holds version ports r t
of_any version ports name t r s h = holds version ports (Event name) t r s (in_event name r h)

-- the port of an event is one of the file
port_fits : (version : Version) (ports : ℕ) (kind : KindWord) (t : Members) → ports ≤ 8
    → is_sound version ports (Event (event.OnPort kind)) t ≡ true → is_port ports (number_at on_port key.Port t) ≡ true
port_fits version ports kind t few s =
    let r = rule key.Port Required form.PortNumber in
    port_needed version ports key.Port t few
    (holds version ports (Event (event.OnPort kind)) t r s (in_kind kind r (first r any_event)))

-- ---- what a sound table says happens is within the limits

kind_fit : (version : Version) (ports : ℕ) (kind : KindWord) (t : Members)
    → is_sound version ports (Event (event.OnPort kind)) t ≡ true → kind_fits (kind_in kind t) ≡ true
kind_fit version ports (Attach cable sink) t s = rw ((attach_named version ports t s).0, (attach_named version ports t s).1)
kind_fit version ports (Demand power) t s = demand_allowed version ports t s
kind_fit version ports (Damage harm) t s = rw ((damage_allowed version ports t s).0, (damage_allowed version ports t s).1)
kind_fit version ports _ t s = refl

happening_fit : (version : Version) (ports : ℕ) (name : EventName) (t : Members) → ports ≤ 8 → is_known name ≡ true
    → is_sound version ports (Event name) t ≡ true → happening_fits ports (happening_of name t) ≡ true
happening_fit version ports (event.OnPort kind) t few known s =
    and_from (is_port ports (number_at on_port key.Port t)) (kind_fits (kind_in kind t))
    (port_fits version ports kind t few s) (kind_fit version ports kind t s)
happening_fit version ports event.Budget t few known s = budget_allowed version ports t s
happening_fit version ports event.Unknown t few known s = absurd (false≢true known)

pub event_fit : (version : Version) (ports : ℕ) (t : Members) → ports ≤ 8 → is_sound_event version ports t ≡ true
    → event_fits ports (event_of version t) ≡ true
event_fit version ports t few s =
    let name = event_at version t in
    let id_rule = rule key.Id Required (form.Number quantity.EventId) in
    let at_rule = rule key.At Required (form.Number quantity.Time) in
    let kind_rule = rule key.Kind Required form.EventWord in
    let id = needed version ports key.Id quantity.EventId t (of_any version ports name t id_rule s (0, lit< tt, refl)) in
    let at = needed version ports key.At quantity.Time t (of_any version ports name t at_rule s (1, lit< tt, refl)) in
    let word = of_any version ports name t kind_rule s (2, lit< tt, refl) in
    let known = known_in version (value_at key.Kind t) word.there word.ranged in
    let what = happening_fit version ports name t few known s in
    let e = event_of version t in
    let numbers = and_from (allows quantity.EventId e.id) (allows quantity.Time e.at) id at in
    and_from (allows quantity.EventId e.id && allows quantity.Time e.at) (happening_fits ports e.happening) numbers what
