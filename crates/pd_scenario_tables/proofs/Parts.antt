-- What the sound tables of a file say is within the limits of a scenario.
use Rattle.std.proofs.Common.{◌≡◌, ℕ, ◌<◌, ◌≤◌, ◌%◌, pos, true, false, not, ◌&&◌, ◌==◌, List, [], ◌∷◌, length, map, refl, sym, ap, arith}
use Rattle.std.proofs.Common.{lit<, Some, None}
use Rattle.std.specs.Prelude.{Option, is_none, nat_le, nat_lt}
use Rattle.std.specs.List.{list_all}
use Rattle.std.proofs.lemmas.Bool.{false≢true, and_parts, not-true, not-false}
use Rattle.std.proofs.lemmas.Bool.Decides.{nat_tests}
use Rattle.toml.specs.Data.{Data, Members}
use Rattle.pd_objects.specs.Supply.{SupplyData, IsSupply}
use Rattle.pd_packet.specs.Damage.{IsDamage}
use Rattle.pd_setup.specs.declared.event.EventKind.TheVariants.{Attach, Demand, Damage}
use Rattle.pd_setup.specs.Sinks.{SinkData, IsSink, IsDemand}
use Rattle.pd_setup.specs.Settings.{SettingsData, IsSettings, AreRising}
use Rattle.pd_scenario.specs.Names.{is_name}
use Rattle.pd_scenario.specs.Limits.{allows}
use Rattle.pd_scenario.specs.declared.limits.Quantity.TheVariants as quantity
use Rattle.pd_scenario_tables.specs.declared.schema.Version.{Version}
use Rattle.pd_scenario_tables.specs.declared.schema.Version.TheVariants.{One, Two}
use Rattle.pd_scenario_tables.specs.declared.schema.EventName.TheVariants as event
use Rattle.pd_scenario_tables.specs.declared.schema.TableKind.TheVariants.{Port, Cable, Sink, Event}
use Rattle.pd_scenario_tables.specs.declared.schema.Key.TheVariants as key
use Rattle.pd_scenario_tables.specs.declared.schema.Need.TheVariants as need
use Rattle.pd_scenario_tables.specs.declared.schema.Need.TheVariants.{Required}
use Rattle.pd_scenario_tables.specs.declared.schema.Form.TheVariants as form
use Rattle.pd_scenario_tables.specs.declared.schema.Rule.{Rule}
use Rattle.pd_scenario_tables.specs.declared.fault.ScenarioFault.TheVariants as fault
use Rattle.pd_scenario_tables.specs.Schema.{rule, port_rules}
use Rattle.pd_scenario_tables.specs.Values.{elements_of, small, pair_of, supply_of, supplies_of, is_within, is_supply, are_rising}
use Rattle.pd_scenario_tables.specs.Values.{are_supplies, passes}
use Rattle.pd_scenario_tables.specs.Tables.{value_at, value_fails, some_value_fails, elements_in, elements_at, word_at, number_at, fails}
use Rattle.pd_scenario_tables.specs.Tables.{is_sound, is_sound_port}
use Rattle.pd_scenario_tables.specs.Convert.{settings_of, sink_of}
use Rattle.pd_scenario_tables.proofs.Sound.{Holds, holds, at_rule, within_small, needed, number_or, name_needed}

-- ---- limits as the parts of a scenario state them

voltage : (n : ℕ) → allows quantity.Voltage n ≡ true → (5000 ≤ n) × (n ≤ 20000) × (n % 50 ≡ 0)
voltage n h = (grind (arith, nat_tests), grind (arith, nat_tests), grind (arith, nat_tests))

current : (n : ℕ) → allows quantity.Current n ≡ true → (10 ≤ n) × (n ≤ 5000) × (n % 10 ≡ 0)
current n h = (grind (arith, nat_tests), grind (arith, nat_tests), grind (arith, nat_tests))

pub is_demand : (n : ℕ) → allows quantity.Demand n ≡ true → IsDemand n
is_demand n h = (grind (arith, nat_tests), grind (arith, nat_tests))

floor : (n : ℕ) → allows quantity.Floor n ≡ true → (500 ≤ n) × (n ≤ 100000)
floor n h = (grind (arith, nat_tests), grind (arith, nat_tests))

tries : (n : ℕ) → allows quantity.IdentityTries n ≡ true → n ≤ 20
tries n h = grind (arith, nat_tests)

place : (n : ℕ) → allows quantity.DamagePlace n ≡ true → n ≤ 68
place n h = grind (arith, nat_tests)

mask : (n : ℕ) → allows quantity.DamageMask n ≡ true → (1 ≤ n) × (n ≤ 31)
mask n h = (grind (arith, nat_tests), grind (arith, nat_tests))

-- ---- cables and sinks

pub cable_named : (version : Version) (ports : ℕ) (t : Members) → is_sound version ports Cable t ≡ true
    → is_name (word_at key.Name t) ≡ true
cable_named version ports t sound =
    name_needed version ports key.Name t (holds version ports Cable t (rule key.Name Required form.Name) sound (0, lit< tt, refl))

pub sink_named : (version : Version) (ports : ℕ) (t : Members) → is_sound version ports Sink t ≡ true → is_name (word_at key.Name t) ≡ true
sink_named One ports t sound =
    name_needed One ports key.Name t (holds One ports Sink t (rule key.Name Required form.Name) sound (0, lit< tt, refl))
sink_named Two ports t sound =
    name_needed Two ports key.Name t (holds Two ports Sink t (rule key.Name Required form.Name) sound (0, lit< tt, refl))

sink_max : (version : Version) (ports : ℕ) (t : Members) → is_sound version ports Sink t ≡ true
    → Holds version ports (rule key.Max Required (form.Number quantity.Voltage)) t
sink_max One ports t sound = holds One ports Sink t (rule key.Max Required (form.Number quantity.Voltage)) sound (1, lit< tt, refl)
sink_max Two ports t sound = holds Two ports Sink t (rule key.Max Required (form.Number quantity.Voltage)) sound (1, lit< tt, refl)

sink_demand : (version : Version) (ports : ℕ) (t : Members) → is_sound version ports Sink t ≡ true
    → Holds version ports (rule key.Demand Required (form.Number quantity.Demand)) t
sink_demand One ports t sound = holds One ports Sink t (rule key.Demand Required (form.Number quantity.Demand)) sound (2, lit< tt, refl)
sink_demand Two ports t sound = holds Two ports Sink t (rule key.Demand Required (form.Number quantity.Demand)) sound (2, lit< tt, refl)

pub is_sink : (s : SinkData) → allows quantity.Voltage s.max_mv ≡ true → allows quantity.Demand s.demand_mw ≡ true → IsSink s
is_sink s v d =
    let volts = voltage s.max_mv v in
    let power = is_demand s.demand_mw d in
    record { least_mv = volts.0; most_mv = volts.1; steps_mv = volts.2; least_mw = power.0; most_mw = power.1 }

pub sink_numbers : (version : Version) (ports : ℕ) (t : Members) → is_sound version ports Sink t ≡ true
    → (allows quantity.Voltage (number_at [] key.Max t) ≡ true) × (allows quantity.Demand (number_at [] key.Demand t) ≡ true)
sink_numbers version ports t sound = (
  needed version ports key.Max quantity.Voltage t (sink_max version ports t sound),
  needed version ports key.Demand quantity.Demand t
      (sink_demand version ports t sound),
)

pub sink_fits : (version : Version) (ports : ℕ) (t : Members) → is_sound version ports Sink t ≡ true → IsSink ((sink_of t).sink)
sink_fits One ports t sound =
    is_sink ((sink_of t).sink) (needed One ports key.Max quantity.Voltage t (sink_max One ports t sound))
    (needed One ports key.Demand quantity.Demand t (sink_demand One ports t sound))
sink_fits Two ports t sound =
    is_sink ((sink_of t).sink) (needed Two ports key.Max quantity.Voltage t (sink_max Two ports t sound))
    (needed Two ports key.Demand quantity.Demand t (sink_demand Two ports t sound))

-- ---- ports

pub is_one_supply : (d : Data) → is_supply d ≡ true → IsSupply (supply_of d)
is_one_supply d h =
    let both = and_parts (is_within quantity.Voltage ((pair_of d).0)) (is_within quantity.Current ((pair_of d).1)) h in
    let volts = voltage (small ((pair_of d).0)) (within_small quantity.Voltage ((pair_of d).0) both.0) in
    let amperes = current (small ((pair_of d).1)) (within_small quantity.Current ((pair_of d).1) both.1) in
    record { least_mv = volts.0; most_mv = volts.1; steps_mv = volts.2; least_ma = amperes.0; most_ma = amperes.1; steps_ma = amperes.2 }

rising : (ss : List SupplyData) → are_rising ss ≡ true → AreRising ss
rising [] h = tt
rising (s ∷ []) h = tt
rising (s ∷ (r ∷ ss)) h =
    let both = and_parts (nat_lt s.mv r.mv) (are_rising (r ∷ ss)) h in
    let above : s.mv < r.mv = let first = both.0 in grind (arith, nat_tests) in
    (above, rising (r ∷ ss) both.1)

is_settings : (s : SettingsData) → allows quantity.Floor s.floor_mw ≡ true → allows quantity.IdentityTries s.identity_tries ≡ true
    → (ss : List SupplyData) → s.supplies ≡ ss → are_supplies ss ≡ true → IsSettings s
is_settings s f i [] is h = absurd (false≢true h)
is_settings s f i (x ∷ ss) is h =
    let both = and_parts (x.mv == 5000 && nat_le (length (x ∷ ss)) 7) (are_rising (x ∷ ss)) h in
    let numbers = and_parts (x.mv == 5000) (nat_le (length (x ∷ ss)) 7) both.0 in
    let first : x.mv ≡ 5000 = let equal = numbers.0 in grind (arith, nat_tests) in
    let few : length (x ∷ ss) ≤ 7 = let least = numbers.1 in grind (arith, nat_tests) in
    record {
      least_floor = (floor s.floor_mw f).0;
      most_floor = (floor s.floor_mw f).1;
      some_supply = rw is (omega arith);
      few_supplies = rw is few;
      first_supply = rw is (ap (λ (mv : ℕ). Some mv) first);
      rising = rw is (rising (x ∷ ss) both.1);
      most_tries = tries s.identity_tries i;
    }

supplies_in : (o : Option Data) → (true && is_none o) ≡ false → value_fails (λ d. list_all is_supply (elements_of d)) o ≡ false
    → value_fails (λ d. are_supplies (supplies_of d)) o ≡ false
    → (list_all is_supply (elements_in o) ≡ true) × (are_supplies (map supply_of (elements_in o)) ≡ true)
supplies_in None there ranged supplied = absurd (false≢true (sym there))
supplies_in (Some d) there ranged supplied =
    (not-false (list_all is_supply (elements_of d)) ranged, not-false (are_supplies (supplies_of d)) supplied)

pub port_supplies : (version : Version) (ports : ℕ) (t : Members) → is_sound_port version ports t ≡ true
    → (list_all is_supply (elements_at key.Supplies t) ≡ true) × (are_supplies (map supply_of (elements_at key.Supplies t)) ≡ true)
unfolding is_sound_port fails
port_supplies version ports t sound =
    let both = and_parts (is_sound version ports Port t) (not (some_value_fails fault.Supplies version ports port_rules t)) sound in
    let r = rule key.Supplies Required form.Supplies in
    let table = holds version ports Port t r both.0 (1, lit< tt, refl) in
    let supplied = at_rule (λ (x : Rule). value_fails (passes fault.Supplies version ports x.form) (value_at x.key t)) port_rules 1 r
    (lit< tt) refl (not-true (some_value_fails fault.Supplies version ports port_rules t) both.1) in
    supplies_in (value_at key.Supplies t) table.there table.ranged supplied

pub few_supplies : (ss : List SupplyData) → are_supplies ss ≡ true → length ss ≤ 7
few_supplies [] h = omega arith
few_supplies (x ∷ ss) h =
    let both = and_parts (x.mv == 5000 && nat_le (length (x ∷ ss)) 7) (are_rising (x ∷ ss)) h in
    let few = (and_parts (x.mv == 5000) (nat_le (length (x ∷ ss)) 7) both.0).1 in
    grind (arith, nat_tests)

pub port_fits : (version : Version) (ports : ℕ) (t : Members) → is_sound_port version ports t ≡ true → IsSettings (settings_of t)
unfolding is_sound_port
port_fits version ports t sound =
    let both = and_parts (is_sound version ports Port t) (not (fails fault.Supplies version ports Port t)) sound in
    let f = holds version ports Port t (rule key.Floor Required (form.Number quantity.Floor)) both.0 (0, lit< tt, refl) in
    let i = holds version ports Port t (rule key.IdentityTries (need.Number (pos 3)) (form.Number quantity.IdentityTries)) both.0
    (2, lit< tt, refl) in
    is_settings (settings_of t) (needed version ports key.Floor quantity.Floor t f)
    (number_or version ports key.IdentityTries (pos 3) quantity.IdentityTries t refl i)
    (map supply_of (elements_at key.Supplies t)) refl (port_supplies version ports t sound).1

pub few_tries : (version : Version) (ports : ℕ) (t : Members) → is_sound_port version ports t ≡ true
    → number_at port_rules key.IdentityTries t ≤ 20
few_tries version ports t sound = (port_fits version ports t sound).most_tries

-- ---- events

pub attach_named : (version : Version) (ports : ℕ) (t : Members) → is_sound version ports (Event (event.OnPort (Attach tt tt))) t ≡ true
    → (is_name (word_at key.Cable t) ≡ true) × (is_name (word_at key.Sink t) ≡ true)
attach_named version ports t sound = (
  name_needed version ports key.Cable t
      (holds version ports (Event (event.OnPort (Attach tt tt))) t (rule key.Cable Required form.Name) sound (0, lit< tt, refl)),
  name_needed version ports key.Sink t
      (holds version ports (Event (event.OnPort (Attach tt tt))) t (rule key.Sink Required form.Name) sound (1, lit< tt, refl)),
)

pub demand_allowed : (version : Version) (ports : ℕ) (t : Members) → is_sound version ports (Event (event.OnPort (Demand tt))) t ≡ true
    → allows quantity.Demand (number_at [] key.Mw t) ≡ true
demand_allowed version ports t sound =
    needed version ports key.Mw quantity.Demand t
    (holds version ports (Event (event.OnPort (Demand tt))) t (rule key.Mw Required (form.Number quantity.Demand)) sound
    (0, lit< tt, refl))

pub damage_allowed : (version : Version) (ports : ℕ) (t : Members) → is_sound version ports (Event (event.OnPort (Damage tt))) t ≡ true
    → (allows quantity.DamagePlace (number_at [] key.Place t) ≡ true) × (allows quantity.DamageMask (number_at [] key.Mask t) ≡ true)
damage_allowed version ports t sound = (
  needed version ports key.Place quantity.DamagePlace t
      (holds version ports (Event (event.OnPort (Damage tt))) t (rule key.Place Required (form.Number quantity.DamagePlace)) sound
      (0, lit< tt, refl)),
  needed version ports key.Mask quantity.DamageMask t
      (holds version ports (Event (event.OnPort (Damage tt))) t (rule key.Mask Required (form.Number quantity.DamageMask)) sound
      (1, lit< tt, refl)),
)

pub is_damage : (version : Version) (ports : ℕ) (t : Members) → is_sound version ports (Event (event.OnPort (Damage tt))) t ≡ true
    → IsDamage (record { place = number_at [] key.Place t; mask = number_at [] key.Mask t })
is_damage version ports t sound =
    let both = damage_allowed version ports t sound in
    let bits = mask (number_at [] key.Mask t) both.1 in
    record { most_place = place (number_at [] key.Place t) both.0; some_bit = bits.0; most_mask = bits.1 }

pub budget_allowed : (version : Version) (ports : ℕ) (t : Members) → is_sound version ports (Event event.Budget) t ≡ true
    → allows quantity.Budget (number_at [] key.Mw t) ≡ true
budget_allowed version ports t sound =
    needed version ports key.Mw quantity.Budget t
    (holds version ports (Event event.Budget) t (rule key.Mw Required (form.Number quantity.Budget)) sound (0, lit< tt, refl))
