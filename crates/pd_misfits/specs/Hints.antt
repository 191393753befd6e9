-- Hints: what is likelier meant at a place where a rule is broken, docs/FORMATS.md, "Hints".
use Rattle.std.specs.Prelude.{ℕ, ℤ, pos, negsuc, Bool, ◌||◌, List, [], ◌∷◌, ◌++◌, take, find, codes, bytes_eq, Option, Some, None}
use Rattle.std.specs.Prelude.{option_map, if◌then◌else◌}
use Rattle.toml.specs.Data.{Data, array, float, integer, string, table}
use Rattle.pd_hints.specs.Slips.{is_slip, meant_text, nearest}
use Rattle.pd_scenario_tables.specs.declared.schema.Version.{Version}
use Rattle.pd_scenario_tables.specs.declared.schema.Version.TheVariants.{One, Two}
use Rattle.pd_scenario_tables.specs.declared.schema.EventName.TheVariants.{Unknown}
use Rattle.pd_scenario_tables.specs.declared.schema.TableKind.{TableKind}
use Rattle.pd_scenario_tables.specs.declared.schema.TableKind.TheVariants.{Top, Port, Cable, Sink, Event}
use Rattle.pd_scenario_tables.specs.declared.schema.Key.{Key}
use Rattle.pd_scenario_tables.specs.declared.schema.Form.{Form}
use Rattle.pd_scenario_tables.specs.declared.schema.Form.TheVariants.{Number, RatingNumber, PlugWord, ModeWord, EventWord, Supplies}
use Rattle.pd_scenario_tables.specs.declared.schema.Form.TheVariants.{Tables}
use Rattle.pd_scenario_tables.specs.declared.schema.Rule.{Rule}
use Rattle.pd_scenario_tables.specs.declared.fault.ScenarioFault.{ScenarioFault}
use Rattle.pd_scenario_tables.specs.declared.fault.ScenarioFault.TheVariants as fault
use Rattle.pd_scenario_tables.specs.Schema.{text_of, rules_of}
use Rattle.pd_scenario_tables.specs.Tables.{has_key}
use Rattle.pd_scenario_tables.specs.Values.{elements}
use Rattle.pd_misfits.specs.Fractions.{form_unit, fraction_hint}
use Rattle.pd_misfits.specs.Supplies.{number_hint, supplies_hint}
use Rattle.pd_units.specs.Readings.{rating_reading, word_in}

-- ---- a value

-- the words of a form; a change of the budget is none under version 1
abbrev pub kind_words : List (List ℕ)
kind_words =
    codes "attach" ∷ codes "detach" ∷ codes "demand" ∷ codes "lose" ∷ codes "damage" ∷ codes "get_source" ∷ codes "get_sink" ∷ []

abbrev pub plug_words : List (List ℕ)
plug_words = codes "none" ∷ codes "ack" ∷ codes "nak" ∷ codes "busy" ∷ codes "silent" ∷ []

abbrev pub mode_words : List (List ℕ)
mode_words = codes "pd" ∷ codes "plain" ∷ codes "greedy" ∷ []

abbrev pub words_of : Version → Form → List (List ℕ)
words_of version PlugWord = plug_words
words_of version ModeWord = mode_words
words_of One EventWord = kind_words
words_of Two EventWord = codes "budget" ∷ kind_words
words_of version form = []

-- the word is a slip of one of its form
abbrev pub slip_hint : Version → Form → List ℕ → List ℕ
slip_hint version form word = meant_text (nearest word (words_of version form))

-- the word is `budget`, and the file of version 1
abbrev pub word_hint : Version → Form → List ℕ → List ℕ
word_hint One EventWord word =
    if bytes_eq word (codes "budget") then codes "a change of the budget needs `version = 2`" else slip_hint One EventWord word
word_hint version form word = slip_hint version form word

-- one table stands where a list of them is wanted: [cable] in place of [[cable]]
unfoldable pub bracket_hint : Key → List ℕ
bracket_hint k = codes "write `[[" ++ (text_of k ++ codes "]]`")

-- a value of another type: one table, or in place of a number with a unit a text, which may have it, or a fraction
abbrev pub table_hint : Key → Form → List ℕ
table_hint k Tables = bracket_hint k
table_hint k form = []

abbrev pub type_hint : Key → Form → Data → List ℕ
type_hint k form (table ms) = table_hint k form
type_hint k form (string word) = word_in (form_unit form) word
type_hint k form (float x) = fraction_hint form x
type_hint k form d = []

-- a number out of its range, or a word that is none of its form
abbrev pub rating_hint : ℤ → List ℕ
rating_hint (pos n) = rating_reading n
rating_hint (negsuc n) = []

abbrev pub whole_hint : Form → ℤ → List ℕ
whole_hint (Number quantity) z = number_hint quantity z
whole_hint RatingNumber z = rating_hint z
whole_hint form z = []

abbrev pub list_hint : Form → List Data → List ℕ
list_hint Supplies ds = supplies_hint ds
list_hint form ds = []

abbrev pub range_hint : Version → Form → Data → List ℕ
range_hint version form (integer z) = whole_hint form z
range_hint version form (array ds) = list_hint form (elements ds)
range_hint version form (string word) = word_hint version form word
range_hint version form d = []

abbrev pub value_hint : ScenarioFault → Version → Key → Form → Data → List ℕ
value_hint fault.WrongType version k form d = type_hint k form d
value_hint fault.Range version k form d = range_hint version form d
value_hint refusal version k form d = []

-- ---- a key that its table doesn't know

-- the first key of its table of which it is a slip
abbrev pub near_rule : List Rule → List ℕ → Option Rule
near_rule rules k = find (λ (r : Rule). is_slip k (text_of r.key)) rules

abbrev pub near_key : List Rule → List ℕ → Option (List ℕ)
near_key rules k = option_map (λ (r : Rule). text_of r.key) (near_rule rules k)

-- the keys of a kind of table, of the top without those of the lists of tables
abbrev pub own_rules : Version → TableKind → List Rule
own_rules version Top = take 3 (rules_of version Top)
own_rules version kind = rules_of version kind

unfoldable pub knows : Version → TableKind → List ℕ → Bool
knows version kind k = has_key (own_rules version kind) k

-- a kind of table is named where it has the key
abbrev pub home_part : List ℕ → Version → TableKind → List ℕ → List ℕ
home_part words version kind k = if knows version kind k then words else []

-- the kinds of tables that have the key
unfoldable pub later_homes : Version → List ℕ → List ℕ
later_homes version k =
    home_part (codes " [[cable]]") version Cable k
    ++ (home_part (codes " [[sink]]") version Sink k ++ home_part (codes " [[event]] by its kind") version (Event Unknown) k)

unfoldable pub homes : Version → List ℕ → List ℕ
homes version k =
    home_part (codes " the top") version Top k ++ (home_part (codes " [[port]]") version Port k ++ later_homes version k)

unfoldable pub has_home : Version → List ℕ → Bool
has_home version k =
    knows version Top k
    || (knows version Port k || (knows version Cable k || (knows version Sink k || knows version (Event Unknown) k)))

unfoldable pub home_words : Version → List ℕ → List ℕ
home_words version k = codes "it is a key of" ++ homes version k

abbrev pub home_hint : Version → List ℕ → List ℕ
home_hint version k = if has_home version k then home_words version k else []

-- the key is a slip of one of its table, or stands in the wrong table
abbrev pub other_hint : Version → Option (List ℕ) → List ℕ → List ℕ
other_hint version None k = home_hint version k
other_hint version (Some near) k = meant_text (Some near)

-- or its table has it in a file of version 2
unfoldable pub key_hint : Version → TableKind → List ℕ → List ℕ
key_hint version kind k =
    if has_key (rules_of Two kind) k then codes "it needs `version = 2`"
    else other_hint version (near_key (rules_of version kind) k) k
