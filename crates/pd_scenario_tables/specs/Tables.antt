-- The refusals of one table of a file.
use Rattle.std.specs.Prelude.{◌≡◌, ℕ, ℤ, pos, Bool, true, false, not, ◌&&◌, List, [], ◌∷◌, Option, Some, None, is_none, unwrap_or, bytes_eq}
use Rattle.std.specs.Prelude.{if◌then◌else◌}
use Rattle.std.specs.List.{list_any, filter_map}
use Rattle.toml.specs.Data.{Data, Members, no_members, member, get_member, as_table}
use Rattle.pd_setup.specs.declared.sink.SinkMode.{SinkMode}
use Rattle.pd_setup.specs.declared.sink.SinkMode.TheVariants.{PowerDelivery}
use Rattle.pd_scenario_tables.specs.declared.schema.Version.{Version}
use Rattle.pd_scenario_tables.specs.declared.schema.Version.TheVariants.{One}
use Rattle.pd_scenario_tables.specs.declared.schema.EventName.{EventName}
use Rattle.pd_scenario_tables.specs.declared.schema.TableKind.{TableKind}
use Rattle.pd_scenario_tables.specs.declared.schema.TableKind.TheVariants.{Port, Event}
use Rattle.pd_scenario_tables.specs.declared.schema.Key.{Key}
use Rattle.pd_scenario_tables.specs.declared.schema.Key.TheVariants as key
use Rattle.pd_scenario_tables.specs.declared.schema.Need.{Need}
use Rattle.pd_scenario_tables.specs.declared.schema.Need.TheVariants.{Required, Nothing, Number, Truth, Mode}
use Rattle.pd_scenario_tables.specs.declared.schema.Rule.{Rule}
use Rattle.pd_scenario_tables.specs.declared.fault.ScenarioFault.{ScenarioFault}
use Rattle.pd_scenario_tables.specs.declared.fault.ScenarioFault.TheVariants as fault
use Rattle.pd_scenario_tables.specs.Schema.{text_of, rules_of}
use Rattle.pd_scenario.specs.Words.{mode_of}
use Rattle.pd_scenario_tables.specs.Words.{version_of, event_named}
use Rattle.pd_scenario_tables.specs.Values.{whole_of, word_of, truth_of, small, elements_of, passes}

-- ---- what stands at a key, or for it where it is absent

abbrev pub value_at : Key → Members → Option Data
value_at k t = get_member (text_of k) t

abbrev pub need_of : List Rule → Key → Need
need_of [] k = Nothing
need_of (r ∷ rules) k = if bytes_eq (text_of r.key) (text_of k) then r.need else need_of rules k

abbrev pub default_whole : Need → ℤ
default_whole Required = pos 0
default_whole Nothing = pos 0
default_whole (Number z) = z
default_whole (Truth b) = pos 0
default_whole (Mode m) = pos 0

abbrev pub default_truth : Need → Bool
default_truth Required = false
default_truth Nothing = false
default_truth (Number z) = false
default_truth (Truth b) = b
default_truth (Mode m) = false

abbrev pub default_mode : Need → SinkMode
default_mode Required = PowerDelivery
default_mode Nothing = PowerDelivery
default_mode (Number z) = PowerDelivery
default_mode (Truth b) = PowerDelivery
default_mode (Mode m) = m

abbrev pub whole_in : Option Data → ℤ → ℤ
whole_in None otherwise = otherwise
whole_in (Some d) otherwise = whole_of d

abbrev pub truth_in : Option Data → Bool → Bool
truth_in None otherwise = otherwise
truth_in (Some d) otherwise = truth_of d

abbrev pub word_in : Option Data → List ℕ
word_in None = []
word_in (Some d) = word_of d

abbrev pub elements_in : Option Data → List Data
elements_in None = []
elements_in (Some d) = elements_of d

abbrev pub whole_at : List Rule → Key → Members → ℤ
whole_at rules k t = whole_in (value_at k t) (default_whole (need_of rules k))

abbrev pub number_at : List Rule → Key → Members → ℕ
number_at rules k t = small (whole_at rules k t)

abbrev pub truth_at : List Rule → Key → Members → Bool
truth_at rules k t = truth_in (value_at k t) (default_truth (need_of rules k))

abbrev pub word_at : Key → Members → List ℕ
word_at k t = word_in (value_at k t)

abbrev pub elements_at : Key → Members → List Data
elements_at k t = elements_in (value_at k t)

abbrev pub mode_at : List Rule → Members → SinkMode
mode_at rules t = unwrap_or (mode_of (word_at key.Mode t)) (default_mode (need_of rules key.Mode))

-- the tables of the array at a key
abbrev pub tables_at : Key → Members → List Members
tables_at k t = filter_map as_table (elements_at k t)

-- the version of a file; one of another number is refused
abbrev pub version_at : Members → Version
version_at t = unwrap_or (version_of (whole_in (value_at key.Version t) (pos 0))) One

-- what an event's kind says
abbrev pub event_at : Version → Members → EventName
event_at version t = event_named version (word_at key.Kind t)

-- ---- refusals

abbrev pub keys_of : Members → List (List ℕ)
keys_of no_members = []
keys_of (member k d ms) = k ∷ keys_of ms

abbrev pub has_key : List Rule → List ℕ → Bool
has_key rules k = list_any (λ (r : Rule). bytes_eq k (text_of r.key)) rules

-- the table has a key that no rule has
abbrev pub has_unknown_key : List Rule → Members → Bool
has_unknown_key rules t = list_any (λ k. not (has_key rules k)) (keys_of t)

abbrev pub is_required : Need → Bool
is_required Required = true
is_required Nothing = false
is_required (Number z) = false
is_required (Truth b) = false
is_required (Mode m) = false

-- a rule's key is absent, and nothing stands for it
abbrev pub lacks_key : List Rule → Members → Bool
lacks_key rules t = list_any (λ (r : Rule). is_required r.need && is_none (value_at r.key t)) rules

abbrev pub value_fails : (Data → Bool) → Option Data → Bool
value_fails test None = false
value_fails test (Some d) = not (test d)

-- the value at a rule's key is one to which the refusal applies
abbrev pub some_value_fails : ScenarioFault → Version → ℕ → List Rule → Members → Bool
some_value_fails refusal version ports rules t =
    list_any (λ (r : Rule). value_fails (passes refusal version ports r.form) (value_at r.key t)) rules

-- the refusal applies to a table of a kind, in a file of a version for so many ports
unfoldable pub fails : ScenarioFault → Version → ℕ → TableKind → Members → Bool
fails fault.UnknownKey version ports kind t = has_unknown_key (rules_of version kind) t
fails fault.MissingKey version ports kind t = lacks_key (rules_of version kind) t
fails refusal version ports kind t = some_value_fails refusal version ports (rules_of version kind) t

abbrev pub event_fails : ScenarioFault → Version → ℕ → Members → Bool
event_fails refusal version ports t = fails refusal version ports (Event (event_at version t)) t

-- a table lacks no key, and its numbers, words and names are in range
unfoldable pub is_sound : Version → ℕ → TableKind → Members → Bool
is_sound version ports kind t =
    not (fails fault.MissingKey version ports kind t)
    && (not (fails fault.Range version ports kind t) && not (fails fault.Name version ports kind t))

abbrev pub is_sound_event : Version → ℕ → Members → Bool
is_sound_event version ports t = is_sound version ports (Event (event_at version t)) t

-- a port's supplies are 1 to 7, with rising voltages
unfoldable pub is_sound_port : Version → ℕ → Members → Bool
is_sound_port version ports t = is_sound version ports Port t && not (fails fault.Supplies version ports Port t)

-- a table is sound in a file of some version for some number of ports
pub record IsSound (kind : TableKind) (t : Members) : Type 0 where
  pub version : Version
  pub ports : ℕ
  pub sound : is_sound version ports kind t ≡ true

pub record IsSoundPort (t : Members) : Type 0 where
  pub version : Version
  pub ports : ℕ
  pub sound : is_sound_port version ports t ≡ true
