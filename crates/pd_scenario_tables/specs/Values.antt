-- What a value of a file is, and whether it is what a form asks for.
use Rattle.std.specs.Prelude.{ℕ, ◌^◌, ℤ, pos, negsuc, Bool, true, false, ◌&&◌, ◌==◌, nat_le, nat_lt, List, [], ◌∷◌, map, length, is_some}
use Rattle.std.specs.Prelude.{if◌then◌else◌}
use Rattle.std.specs.List.{list_all}
use Rattle.toml.specs.Data.{Data, string, integer, boolean, array, table, Items, no_items, item}
use Rattle.pd_objects.specs.Supply.{SupplyData}
use Rattle.pd_scenario.specs.Names.{is_name}
use Rattle.pd_scenario.specs.Limits.{allows, is_port, most_supplies, first_mv}
use Rattle.pd_scenario.specs.declared.limits.Quantity.{Quantity}
use Rattle.pd_scenario.specs.declared.limits.Quantity.TheVariants.{Voltage, Current}
use Rattle.pd_scenario.specs.Words.{plug_of, mode_of, rating_of}
use Rattle.pd_scenario_tables.specs.Words.{revision_of, version_of, event_named}
use Rattle.pd_scenario_tables.specs.declared.schema.Version.{Version}
use Rattle.pd_scenario_tables.specs.declared.schema.EventName.{EventName}
use Rattle.pd_scenario_tables.specs.declared.schema.EventName.TheVariants.{OnPort, Budget, Unknown}
use Rattle.pd_scenario_tables.specs.declared.schema.Form.{Form}
use Rattle.pd_scenario_tables.specs.declared.schema.Form.TheVariants.{Number, VersionNumber, PortNumber, RatingNumber, RevisionNumber, Name}
use Rattle.pd_scenario_tables.specs.declared.schema.Form.TheVariants.{PlugWord, ModeWord, EventWord, Truth, Supplies, Tables}
use Rattle.pd_scenario_tables.specs.declared.fault.ScenarioFault.{ScenarioFault}
use Rattle.pd_scenario_tables.specs.declared.fault.ScenarioFault.TheVariants as fault

-- ---- what a value is; of another type it is 0, no text, no, or an empty list

abbrev pub whole_of : Data → ℤ
whole_of (integer z) = z
whole_of _ = pos 0

abbrev pub word_of : Data → List ℕ
word_of (string s) = s
word_of _ = []

abbrev pub truth_of : Data → Bool
truth_of (boolean b) = b
truth_of _ = false

abbrev pub elements : Items → List Data
elements no_items = []
elements (item d ds) = d ∷ elements ds

abbrev pub elements_of : Data → List Data
elements_of (array ds) = elements ds
elements_of _ = []

-- the two numbers of a pair
abbrev pub pair_of : Data → ℤ × ℤ
pair_of (array (item a (item b no_items))) = (whole_of a, whole_of b)
pair_of _ = (pos 0, pos 0)

-- a number as the program keeps it, in 32 bits; another is 0
abbrev pub natural : ℤ → ℕ
natural (pos n) = n
natural (negsuc n) = 0

abbrev pub small : ℤ → ℕ
small z = if nat_lt (natural z) (2 ^ 32) then natural z else 0

abbrev pub supply_of : Data → SupplyData
supply_of d = record { mv = small ((pair_of d).0); ma = small ((pair_of d).1) }

abbrev pub supplies_of : Data → List SupplyData
supplies_of d = map supply_of (elements_of d)

-- ---- types

abbrev pub is_whole : Data → Bool
is_whole (integer z) = true
is_whole _ = false

abbrev pub is_text : Data → Bool
is_text (string s) = true
is_text _ = false

abbrev pub is_truth : Data → Bool
is_truth (boolean b) = true
is_truth _ = false

abbrev pub is_table : Data → Bool
is_table (table ms) = true
is_table _ = false

-- an array of two whole numbers
abbrev pub is_pair : Data → Bool
is_pair (array (item a (item b no_items))) = is_whole a && is_whole b
is_pair _ = false

-- an array whose elements all pass a test
abbrev pub is_array_of : (Data → Bool) → Data → Bool
is_array_of test (array ds) = list_all test (elements ds)
is_array_of test _ = false

abbrev pub has_type : Form → Data → Bool
has_type (Number quantity) d = is_whole d
has_type VersionNumber d = is_whole d
has_type PortNumber d = is_whole d
has_type RatingNumber d = is_whole d
has_type RevisionNumber d = is_whole d
has_type Name d = is_text d
has_type PlugWord d = is_text d
has_type ModeWord d = is_text d
has_type EventWord d = is_text d
has_type Truth d = is_truth d
has_type Supplies d = is_array_of is_pair d
has_type Tables d = is_array_of is_table d

-- ---- ranges

abbrev pub is_within : Quantity → ℤ → Bool
is_within quantity (pos n) = allows quantity n
is_within quantity (negsuc n) = false

abbrev pub is_port_number : ℕ → ℤ → Bool
is_port_number ports (pos n) = is_port ports n
is_port_number ports (negsuc n) = false

abbrev pub is_supply : Data → Bool
is_supply d = is_within Voltage ((pair_of d).0) && is_within Current ((pair_of d).1)

abbrev pub is_known : EventName → Bool
is_known (OnPort kind) = true
is_known Budget = true
is_known Unknown = false

-- a number of so many ports' file is within its limits, and a word is one of its form
abbrev pub in_range : Version → ℕ → Form → Data → Bool
in_range version ports (Number quantity) d = is_within quantity (whole_of d)
in_range version ports VersionNumber d = is_some (version_of (whole_of d))
in_range version ports PortNumber d = is_port_number ports (whole_of d)
in_range version ports RatingNumber d = is_some (rating_of (natural (whole_of d)))
in_range version ports RevisionNumber d = is_some (revision_of (whole_of d))
in_range version ports Name d = true
in_range version ports PlugWord d = is_some (plug_of (word_of d))
in_range version ports ModeWord d = is_some (mode_of (word_of d))
in_range version ports EventWord d = is_known (event_named version (word_of d))
in_range version ports Truth d = true
in_range version ports Supplies d = list_all is_supply (elements_of d)
in_range version ports Tables d = true

-- ---- names and supplies

abbrev pub is_named : Form → Data → Bool
is_named (Number quantity) d = true
is_named VersionNumber d = true
is_named PortNumber d = true
is_named RatingNumber d = true
is_named RevisionNumber d = true
is_named Name d = is_name (word_of d)
is_named PlugWord d = true
is_named ModeWord d = true
is_named EventWord d = true
is_named Truth d = true
is_named Supplies d = true
is_named Tables d = true

-- each voltage is above the one before
abbrev pub are_rising : List SupplyData → Bool
are_rising [] = true
are_rising (s ∷ []) = true
are_rising (s ∷ (t ∷ supplies)) = nat_lt s.mv t.mv && are_rising (t ∷ supplies)

-- 1 to 7 supplies, the first of 5 V, with rising voltages
abbrev pub are_supplies : List SupplyData → Bool
are_supplies [] = false
are_supplies (s ∷ supplies) = (s.mv == first_mv && nat_le (length (s ∷ supplies)) most_supplies) && are_rising (s ∷ supplies)

abbrev pub is_supplied : Form → Data → Bool
is_supplied (Number quantity) d = true
is_supplied VersionNumber d = true
is_supplied PortNumber d = true
is_supplied RatingNumber d = true
is_supplied RevisionNumber d = true
is_supplied Name d = true
is_supplied PlugWord d = true
is_supplied ModeWord d = true
is_supplied EventWord d = true
is_supplied Truth d = true
is_supplied Supplies d = are_supplies (supplies_of d)
is_supplied Tables d = true

-- a refusal of a single value doesn't apply to one that has to be of the form
abbrev pub passes : ScenarioFault → Version → ℕ → Form → Data → Bool
passes fault.WrongType version ports form d = has_type form d
passes fault.Range version ports form d = in_range version ports form d
passes fault.Name version ports form d = is_named form d
passes fault.Supplies version ports form d = is_supplied form d
passes _ version ports form d = true
