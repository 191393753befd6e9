-- The JSON Schema (draft-07) of a scenario file: a text made from the table by which files are read, Schema.antt of
-- pd_scenario_tables. A table has the properties that its rules name, and no others; a rule's key is required where nothing stands for
-- it. What a version or a kind of event knows is told by `if` and `then`, so that an editor marks the place itself.
use Rattle.std.specs.Prelude.{ℕ, List, [], ◌∷◌, ◌++◌, codes, if◌then◌else◌}
use Rattle.std.specs.List.{flat_map}
use Rattle.pd_scenario_tables.specs.declared.schema.Version.{Version}
use Rattle.pd_scenario_tables.specs.declared.schema.Version.TheVariants.{One, Two}
use Rattle.pd_scenario_tables.specs.declared.schema.EventName.TheVariants.{Unknown}
use Rattle.pd_scenario_tables.specs.declared.schema.TableKind.TheVariants.{Top, Port, Cable, Sink, Event}
use Rattle.pd_scenario_tables.specs.declared.schema.Key.{Key}
use Rattle.pd_scenario_tables.specs.declared.schema.Key.TheVariants as key
use Rattle.pd_scenario_tables.specs.declared.schema.Form.{Form}
use Rattle.pd_scenario_tables.specs.declared.schema.Form.TheVariants.{EventWord}
use Rattle.pd_scenario_tables.specs.declared.schema.Rule.{Rule}
use Rattle.pd_scenario_tables.specs.Schema.{text_of, rules_of}
use Rattle.pd_scenario_tables.specs.Tables.{is_required}
use Rattle.pd_scenario_tables.specs.Words.{event_named}
use Rattle.pd_save.specs.Json.{quoted, next_quoted}
use Rattle.pd_save.specs.SchemaMeanings.{meaning, event_meaning}
use Rattle.pd_save.specs.SchemaForms.{kind_words, kind_members, definition_name, reference, value_members, default_members}

-- ---- a table of a kind

-- the key, and its description
unfoldable pub key_head : Rule → List ℕ
key_head r =
    codes "\n        " ++ (quoted (text_of r.key) ++ (codes ": {\"description\": " ++ quoted (meaning r.key r.form)))

-- a key of a table
unfoldable pub property : Version → Rule → List ℕ
property version r =
    key_head r ++ (codes ", " ++ (value_members version r.key r.form ++ (default_members r.need ++ codes "}")))

unfoldable pub next_property : Version → Rule → List ℕ
next_property version r = codes "," ++ property version r

abbrev pub properties : Version → List Rule → List ℕ
properties version [] = []
properties version (r ∷ rules) = property version r ++ flat_map (next_property version) rules

-- the keys that a table needs
abbrev pub next_needed : Rule → List ℕ
next_needed r = if is_required r.need then next_quoted (text_of r.key) else []

abbrev pub needed : List Rule → List ℕ
needed [] = []
needed (r ∷ rules) = if is_required r.need then quoted (text_of r.key) ++ flat_map next_needed rules else needed rules

unfoldable pub table_members : Version → List Rule → List ℕ
table_members version rules =
    codes "\"type\": \"object\", \"additionalProperties\": false, \"required\": [" ++ (needed rules
    ++ (codes "],\n      \"properties\": {" ++ (properties version rules ++ codes "\n      }")))

-- ---- a condition

-- where a key is there and has a value, which follows
unfoldable pub condition : Key → List ℕ
condition k =
    codes "\"if\": {\"required\": [" ++ (quoted (text_of k) ++ (codes "], \"properties\": {" ++ (quoted (text_of k)
    ++ codes ": {\"enum\": [")))

-- ---- definitions

unfoldable pub definition_head : Version → List ℕ → List ℕ → List ℕ
definition_head version word means =
    codes "\n    \"" ++ (definition_name version word ++ (codes "\": {\n      \"description\": " ++ (quoted means ++ codes ",\n      ")))

-- a table that is the same whatever its values are
unfoldable pub definition : Version → List ℕ → List ℕ → List Rule → List ℕ
definition version word means rules = definition_head version word means ++ (table_members version rules ++ codes "\n    }")

-- a key of some kind of event: what it is, and of the key of the kind also which words there are
abbrev pub told_members : Version → Form → List ℕ
told_members version EventWord = codes ", " ++ kind_members version
told_members version form = []

unfoldable pub told_key : Version → Rule → List ℕ
told_key version r = key_head r ++ (told_members version r.form ++ codes "}")

unfoldable pub next_told_key : Version → Rule → List ℕ
next_told_key version r = codes "," ++ told_key version r

abbrev pub told_keys : Version → List Rule → List ℕ
told_keys version [] = []
told_keys version (r ∷ rules) = told_key version r ++ flat_map (next_told_key version) rules

-- an event of a kind is as the definition of the kind says
unfoldable pub kind_case : Version → List ℕ → List ℕ
kind_case version word =
    codes "\n        {" ++ (condition key.Kind ++ (quoted word ++ (codes "]}}}, \"then\": {" ++ (reference version word ++ codes "}}"))))

unfoldable pub next_kind_case : Version → List ℕ → List ℕ
next_kind_case version word = codes "," ++ kind_case version word

abbrev pub kind_cases : Version → List (List ℕ) → List ℕ
kind_cases version [] = []
kind_cases version (word ∷ words) = kind_case version word ++ flat_map (next_kind_case version) words

-- an event has no key but those of some kind
unfoldable pub event_members : Version → List ℕ
event_members version =
    codes "\"type\": \"object\", \"additionalProperties\": false, \"required\": [" ++ (quoted (text_of key.Kind)
    ++ (codes "],\n      \"properties\": {" ++ (told_keys version (rules_of version (Event Unknown))
    ++ (codes "\n      },\n      \"allOf\": [" ++ (kind_cases version (kind_words version) ++ codes "\n      ]")))))

abbrev pub event_head : Version → List ℕ
event_head version = definition_head version (text_of key.Event) (codes "What happens, and when. Which keys it has is by its kind.")

unfoldable pub event_definition : Version → List ℕ
event_definition version = event_head version ++ (event_members version ++ codes "\n    }")

-- the events of a kind: the table by which they are read
unfoldable pub next_kind : Version → List ℕ → List ℕ
next_kind version word =
    codes ","
    ++ definition version word (event_meaning (event_named version word)) (rules_of version (Event (event_named version word)))

abbrev pub port_definition : Version → List ℕ
port_definition version = definition version (text_of key.Port) (codes "A port of the charger.") (rules_of version Port)

abbrev pub cable_definition : Version → List ℕ
cable_definition version = definition version (text_of key.Cable) (codes "A cable that may be attached.") (rules_of version Cable)

abbrev pub sink_definition : Version → List ℕ
sink_definition version = definition version (text_of key.Sink) (codes "A sink that may be attached.") (rules_of version Sink)

unfoldable pub part_definitions : Version → List ℕ
part_definitions version =
    port_definition version ++ (codes "," ++ (cable_definition version ++ (codes "," ++ sink_definition version)))

unfoldable pub definitions : Version → List ℕ
definitions version =
    part_definitions version ++ (codes "," ++ (event_definition version ++ flat_map (next_kind version) (kind_words version)))

-- ---- the whole

unfoldable pub schema_head : List ℕ
schema_head =
    codes "{\n  \"$schema\": \"http://json-schema.org/draft-07/schema#\",\n  \"title\": \"A scenario of pdbench\",\n"
    ++ codes "  \"description\": \"A charger: its ports and the power that they share, cables, sinks, what happens when, and an end.\",\n  "

-- the top of a file of version 2, and of version 1 where the file says so
unfoldable pub tops : List ℕ
tops =
    table_members Two (rules_of Two Top)
    ++ (codes ",\n  " ++ (condition key.Version ++ (codes "1]}}},\n  \"then\": {\n      " ++ (table_members One (rules_of One Top)
    ++ codes "\n  }"))))

unfoldable pub schema_text : List ℕ
schema_text =
    schema_head ++ (tops ++ (codes ",\n  \"definitions\": {" ++ (definitions Two ++ (codes "," ++ (definitions One
    ++ codes "\n  }\n}\n")))))
