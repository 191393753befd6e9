-- Refusal 9 is told exactly where it applies to a file to which none up to the names does.
use Rattle.std.proofs.Common.{◌≡◌, ℕ, ◌+◌, Bool, true, false, not, ◌&&◌, ◌||◌, List, [], ◌∷◌, codes, length, map, fold, refl, sym, ap}
use Rattle.std.proofs.Common.{◌∙◌, subst, arith}
use Rattle.std.proofs.Common.{Some, None, lit<}
use Rattle.std.specs.Prelude.{Option, nat_lt, nat_le, min}
use Rattle.std.specs.List.{list_any, filter_map, cons_option}
use Rattle.std.proofs.lemmas.Bool.{or_parts}
use Rattle.std.proofs.lemmas.Bool.Decides.{nat_tests}
use Rattle.pd_misfits.specs.Spots.{SpotData}
use Rattle.toml.specs.Data.{Members}
use Rattle.pd_setup.specs.Settings.{SettingsData}
use Rattle.pd_scenario.specs.Limits.{allows}
use Rattle.pd_scenario.specs.Scenarios.{budget_of}
use Rattle.pd_scenario.specs.declared.limits.Quantity.TheVariants as quantity
use Rattle.pd_scenario_tables.specs.declared.schema.Version.{Version}
use Rattle.pd_scenario_tables.specs.declared.schema.EventName.{EventName}
use Rattle.pd_scenario_tables.specs.declared.schema.EventName.TheVariants as event
use Rattle.pd_scenario_tables.specs.declared.schema.TableKind.TheVariants.{Top, Port, Cable, Sink, Event}
use Rattle.pd_scenario_tables.specs.declared.schema.Key.{Key}
use Rattle.pd_scenario_tables.specs.declared.schema.Key.TheVariants as key
use Rattle.pd_scenario_tables.specs.declared.schema.Need.TheVariants.{Required}
use Rattle.pd_scenario_tables.specs.declared.schema.Form.TheVariants as form
use Rattle.pd_scenario_tables.specs.declared.fault.ScenarioFault.{ScenarioFault}
use Rattle.pd_scenario_tables.specs.Schema.{rule, text_of, top_rules, port_rules}
use Rattle.pd_scenario_tables.specs.Tables.{number_at, event_at, fails, event_fails, is_sound, is_sound_event}
use Rattle.pd_scenario_tables.specs.Convert.{settings_of, event_of, happening_of}
use Rattle.pd_scenario.specs.Scenarios.{budget_in}
use Rattle.pd_scenario_tables.proofs.Sound.{holds, needed}
use Rattle.pd_scenario_tables.proofs.Parts.{budget_allowed}
use Rattle.pd_scenario_text.specs.FileTables.{Tables, scenario_of}
use Rattle.pd_scenario_text.specs.Refusals.{fails_somewhere, exceeds_budget}
use Rattle.pd_scenario_text.proofs.Decided.{Clean}
use Rattle.pd_scenario_text.proofs.Valid.{sound_events}
use Rattle.pd_misfits.specs.Lines.{event_spot}
use Rattle.pd_places.specs.Funds.{floors_of, low_sentence, low_part, named_low_part, event_low_part, budgets_text, funds_text}
use Rattle.pd_places.proofs.Told.{Told, or_told, if_told, each_told}
use Rattle.pd_places.proofs.TablesTold.{event_told}

-- ---- the top is sound

top_of : (refusal : ScenarioFault) (ports : ℕ) (d : Tables) → fails_somewhere refusal ports d ≡ false
    → fails refusal d.version ports Top d.top ≡ false
unfolding fails_somewhere
top_of refusal ports d h =
    (or_parts (fails refusal d.version ports Top d.top) (list_any (fails refusal d.version ports Port) d.ports
    || (list_any (fails refusal d.version ports Cable) d.cables
    || (list_any (fails refusal d.version ports Sink) d.sinks || list_any (event_fails refusal d.version ports) d.events))) h).0

sound_top : (ports : ℕ) (d : Tables) → Clean ports d → is_sound d.version ports Top d.top ≡ true
unfolding is_sound
sound_top ports d h = rw (top_of _ ports d h.complete, top_of _ ports d h.ranged, top_of _ ports d h.named) refl

some_power : (mw : ℕ) → allows quantity.Budget mw ≡ true → nat_lt 0 mw ≡ true
some_power mw h = grind (arith, nat_tests)

-- ---- the least of some numbers is too low where one of them is

below_is : (a b : ℕ) → nat_lt a b ≡ not (nat_le b a)
below_is a b = grind (arith, nat_tests)

least_of : (a b n : ℕ) → (nat_lt a n || nat_lt b n) ≡ nat_lt (min a b) n
least_of a b n = grind (arith, nat_tests)

or_none : (a : Bool) → (a || false) ≡ a
or_none true = refl
or_none false = refl

grouped : (a b c : Bool) → (a || (b || c)) ≡ ((a || b) || c)
grouped true b c = refl
grouped false b c = refl

below_least : (n mw : ℕ) (bs : List ℕ) → (nat_lt mw n || list_any (λ b. nat_lt b n) bs) ≡ not (nat_le n (fold min mw bs))
below_least n mw [] = or_none (nat_lt mw n) ∙ below_is mw n
below_least n mw (b ∷ bs) =
    let others = list_any (λ x. nat_lt x n) bs in
    grouped (nat_lt mw n) (nat_lt b n) others ∙ ap (λ x. x || others) (least_of mw b n) ∙ below_least n (min mw b) bs

floors_from : (a : ℕ) (ts : List Members) → fold (λ n (s : SettingsData). n + s.floor_mw) a (map settings_of ts)
    ≡ fold (λ n t. n + number_at port_rules key.Floor t) a ts
floors_from a [] = refl
floors_from a (t ∷ ts) = floors_from (a + number_at port_rules key.Floor t) ts

-- ---- the changes of the budget

abbrev lowers : ℕ → Option ℕ → Bool
lowers n None = false
lowers n (Some mw) = nat_lt mw n

abbrev changed : ℕ → Version → Members → Bool
changed n version t = lowers n (budget_of (event_of version t))

more_changes : (n : ℕ) (o : Option ℕ) (rest : List ℕ) (b : Bool) → b ≡ list_any (λ x. nat_lt x n) rest
    → (lowers n o || b) ≡ list_any (λ x. nat_lt x n) (cons_option o rest)
more_changes n None rest b h = h
more_changes n (Some mw) rest b h = ap (λ x. nat_lt mw n || x) h

changes_are : (n : ℕ) (version : Version) (ts : List Members) → list_any (changed n version) ts
    ≡ list_any (λ x. nat_lt x n) (filter_map budget_of (map (event_of version) ts))
changes_are n version [] = refl
changes_are n version (t ∷ ts) =
    more_changes n (budget_of (event_of version t)) (filter_map budget_of (map (event_of version) ts)) (list_any (changed n version) ts)
    (changes_are n version ts)

-- ---- a budget that is too low is told

low_told : (spot : SpotData) (k : Key) (mw floors : ℕ) → nat_lt 0 mw ≡ true → Told spot (nat_lt mw floors) (low_part spot k mw floors)
low_told spot k mw floors there =
    subst (λ b. Told spot b (low_part spot k mw floors)) (ap (λ b. b && nat_lt mw floors) there)
    (if_told spot (nat_lt 0 mw && nat_lt mw floors) (text_of k) (low_sentence k mw floors) [])

named_told : (spot : SpotData) (version : Version) (ports floors : ℕ) (name : EventName) (t : Members)
    → is_sound version ports (Event name) t ≡ true
    → Told spot (lowers floors (budget_in (happening_of name t))) (named_low_part spot floors name t)
named_told spot version ports floors (event.OnPort kind) t sound = refl
named_told spot version ports floors event.Budget t sound =
    low_told spot key.Mw _ floors (some_power _ (budget_allowed version ports t sound))
named_told spot version ports floors event.Unknown t sound = refl

top_told : (spot : SpotData) (ports floors : ℕ) (d : Tables) → Clean ports d
    → Told spot (nat_lt (number_at top_rules key.Budget d.top) floors)
    (low_part spot key.Budget (number_at top_rules key.Budget d.top) floors)
top_told spot ports floors d clean =
    low_told spot key.Budget (number_at top_rules key.Budget d.top) floors
    (some_power (number_at top_rules key.Budget d.top)
    (needed d.version ports key.Budget quantity.Budget d.top
    (holds d.version ports Top d.top (rule key.Budget Required (form.Number quantity.Budget)) (sound_top ports d clean)
    (2, lit< tt, refl))))

budgets_are : (d : Tables) → (nat_lt (number_at top_rules key.Budget d.top) (floors_of d.ports)
    || list_any (changed (floors_of d.ports) d.version) d.events) ≡ exceeds_budget (scenario_of d)
unfolding exceeds_budget
budgets_are d =
    let mw = number_at top_rules key.Budget d.top in
    let floors = floors_of d.ports in
    let budgets = filter_map budget_of (map (event_of d.version) d.events) in
    ap (λ b. nat_lt mw floors || b) (changes_are floors d.version d.events) ∙ below_least floors mw budgets
    ∙ ap (λ n. not (nat_le n (fold min mw budgets))) (sym (floors_from 0 d.ports))

budgets_told : (spot : SpotData) (ports : ℕ) (d : Tables) → Clean ports d
    → Told spot (exceeds_budget (scenario_of d)) (budgets_text spot d)
unfolding budgets_text
budgets_told spot ports d clean =
    let floors = floors_of d.ports in
    subst (λ b. Told spot b (budgets_text spot d)) (budgets_are d)
    (or_told spot _ _ _ _ (top_told spot ports floors d clean)
    (each_told spot (is_sound_event d.version ports) (changed floors d.version) (event_low_part spot d.version floors)
    (λ number t sound. event_told spot d.version number t _ _
    (named_told (event_spot spot d.version number t) d.version ports floors (event_at d.version t) t sound))
    1 d.events (sound_events ports d clean)))

pub funds_told : (spot : SpotData) (ports : ℕ) (d : Tables) → nat_lt 8 (length d.ports) ≡ false → Clean ports d
    → Told spot (exceeds_budget (scenario_of d)) (funds_text spot d)
funds_told spot ports d few clean = rw few (budgets_told spot ports d clean)
