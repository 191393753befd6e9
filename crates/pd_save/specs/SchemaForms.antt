-- What a schema asks of the value of a key, as members of a JSON object: its type, and which numbers and words there may be. The
-- limits are those by which files are read (Limits.antt of pd_scenario). That the words and the numbers of its lists are those, too,
-- is the law SchemaIsWhole.
use Rattle.std.specs.Prelude.{ℕ, true, false, List, [], ◌∷◌, ◌++◌, codes, decimal}
use Rattle.pd_scenario.specs.Limits.{Range, between, stepped, range_of, most_ports, most_names, most_events, most_supplies, first_mv}
use Rattle.pd_scenario.specs.declared.limits.Quantity.TheVariants.{Voltage, Current}
use Rattle.pd_scenario_tables.specs.declared.schema.Version.{Version}
use Rattle.pd_scenario_tables.specs.declared.schema.Version.TheVariants.{One, Two}
use Rattle.pd_scenario_tables.specs.declared.schema.Key.{Key}
use Rattle.pd_scenario_tables.specs.declared.schema.Key.TheVariants as key
use Rattle.pd_scenario_tables.specs.declared.schema.Need.{Need}
use Rattle.pd_scenario_tables.specs.declared.schema.Need.TheVariants as need
use Rattle.pd_scenario_tables.specs.declared.schema.Form.{Form}
use Rattle.pd_scenario_tables.specs.declared.schema.Form.TheVariants.{Number, VersionNumber, PortNumber, RatingNumber, RevisionNumber, Name}
use Rattle.pd_scenario_tables.specs.declared.schema.Form.TheVariants.{PlugWord, ModeWord, EventWord, Truth, Supplies, Tables}
use Rattle.pd_scenario_tables.specs.Schema.{text_of}
use Rattle.pd_scenario_tables.specs.Values.{natural}
use Rattle.pd_save.specs.Words.{mode_word}
use Rattle.pd_save.specs.Json.{quoted, quoted_words, decimals}

-- ---- numbers

unfoldable pub whole_members : ℕ → ℕ → List ℕ
whole_members low high = codes "\"type\": \"integer\", \"minimum\": " ++ (decimal low ++ (codes ", \"maximum\": " ++ decimal high))

unfoldable pub stepped_members : ℕ → ℕ → ℕ → List ℕ
stepped_members low high step = whole_members low high ++ (codes ", \"multipleOf\": " ++ decimal step)

abbrev pub range_members : Range → List ℕ
range_members (between low high) = whole_members low high
range_members (stepped low high step) = stepped_members low high step

-- numbers that stand for a choice
abbrev pub version_numbers : List ℕ
version_numbers = 1 ∷ 2 ∷ []

abbrev pub rating_numbers : List ℕ
rating_numbers = 3000 ∷ 5000 ∷ []

abbrev pub revision_numbers : List ℕ
revision_numbers = 2 ∷ 3 ∷ []

unfoldable pub number_members : List ℕ → List ℕ
number_members numbers = codes "\"type\": \"integer\", \"enum\": [" ++ (decimals numbers ++ codes "]")

-- ---- words

abbrev pub plug_words : List (List ℕ)
plug_words = codes "none" ∷ codes "ack" ∷ codes "nak" ∷ codes "busy" ∷ codes "silent" ∷ []

abbrev pub mode_words : List (List ℕ)
mode_words = codes "pd" ∷ codes "plain" ∷ codes "greedy" ∷ []

-- the kinds of events that a version knows
abbrev pub kind_words : Version → List (List ℕ)
kind_words One =
    codes "attach" ∷ codes "detach" ∷ codes "demand" ∷ codes "lose" ∷ codes "damage" ∷ codes "get_source" ∷ codes "get_sink" ∷ []
kind_words Two =
    codes "attach"
    ∷ codes "detach"
    ∷ codes "demand"
    ∷ codes "lose"
    ∷ codes "damage"
    ∷ codes "get_source"
    ∷ codes "get_sink"
    ∷ codes "budget"
    ∷ []

unfoldable pub word_members : List (List ℕ) → List ℕ
word_members words = codes "\"type\": \"string\", \"enum\": [" ++ (quoted_words words ++ codes "]")

unfoldable pub plug_members : List ℕ
plug_members = word_members plug_words

unfoldable pub mode_members : List ℕ
mode_members = word_members mode_words

unfoldable pub kind_members : Version → List ℕ
kind_members version = word_members (kind_words version)

unfoldable pub truth_members : List ℕ
truth_members = codes "\"type\": \"boolean\""

-- 1 to 16 ASCII letters and digits
unfoldable pub name_members : List ℕ
name_members = codes "\"type\": \"string\", \"minLength\": 1, \"maxLength\": 16, \"pattern\": \"^[0-9A-Za-z]*$\""

-- ---- supplies

unfoldable pub pair_head : List ℕ
pair_head = codes "{\"type\": \"array\", \"minItems\": 2, \"maxItems\": 2, \"items\": [{\"description\": \"A voltage in mV.\", "

unfoldable pub pair_end : List ℕ
pair_end = codes "}, {\"description\": \"A current in mA.\", " ++ (range_members (range_of Current) ++ codes "}]}")

-- the first supply is of 5 V
unfoldable pub first_pair : List ℕ
first_pair = pair_head ++ (number_members (first_mv ∷ []) ++ pair_end)

unfoldable pub other_pair : List ℕ
other_pair = pair_head ++ (range_members (range_of Voltage) ++ pair_end)

unfoldable pub supplies_members : List ℕ
supplies_members =
    codes "\"type\": \"array\", \"minItems\": 1, \"maxItems\": " ++ (decimal most_supplies ++ (codes ", \"items\": [" ++ (first_pair
    ++ (codes "], \"additionalItems\": " ++ other_pair))))

-- ---- lists of tables

-- how many tables there are at least, and may be
abbrev pub least_members : Key → List ℕ
least_members key.Port = codes "\"minItems\": 1, "
least_members k = []

abbrev pub most_of : Key → ℕ
most_of key.Port = most_ports
most_of key.Event = most_events
most_of k = most_names

unfoldable pub most_members : Key → List ℕ
most_members k = codes "\"maxItems\": " ++ decimal (most_of k)

unfoldable pub count_members : Key → List ℕ
count_members k = least_members k ++ most_members k

-- a table's definition is called by its key, or by the kind of its event, and by the version
abbrev pub version_ending : Version → List ℕ
version_ending One = codes "_of_version_1"
version_ending Two = codes "_of_version_2"

unfoldable pub definition_name : Version → List ℕ → List ℕ
definition_name version word = word ++ version_ending version

unfoldable pub reference : Version → List ℕ → List ℕ
reference version word = codes "\"$ref\": \"#/definitions/" ++ (definition_name version word ++ codes "\"")

unfoldable pub list_members : Version → Key → List ℕ
list_members version k =
    codes "\"type\": \"array\", " ++ (count_members k ++ (codes ", \"items\": {" ++ (reference version (text_of k) ++ codes "}")))

-- ---- a value by its form

abbrev pub value_members : Version → Key → Form → List ℕ
value_members version k (Number quantity) = range_members (range_of quantity)
value_members version k VersionNumber = number_members version_numbers
value_members version k PortNumber = whole_members 1 most_ports
value_members version k RatingNumber = number_members rating_numbers
value_members version k RevisionNumber = number_members revision_numbers
value_members version k Name = name_members
value_members version k PlugWord = plug_members
value_members version k ModeWord = mode_members
value_members version k EventWord = kind_members version
value_members version k Truth = truth_members
value_members version k Supplies = supplies_members
value_members version k Tables = list_members version k

-- what stands for an absent key
abbrev pub default_members : Need → List ℕ
default_members need.Required = []
default_members need.Nothing = []
default_members (need.Number z) = codes ", \"default\": " ++ decimal (natural z)
default_members (need.Truth true) = codes ", \"default\": true"
default_members (need.Truth false) = codes ", \"default\": false"
default_members (need.Mode mode) = codes ", \"default\": " ++ quoted (mode_word mode)
