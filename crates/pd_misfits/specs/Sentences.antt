-- What is said of a key of a scenario file at which a rule is broken: this product's own form, docs/FORMATS.md, "Reasons".
use Rattle.std.specs.Prelude.{ℕ, List, [], ◌++◌, codes, decimal}
use Rattle.toml.specs.Data.{Data, array}
use Rattle.pd_scenario.specs.Limits.{Range, between, stepped, range_of}
use Rattle.pd_scenario.specs.declared.limits.Quantity.{Quantity}
use Rattle.pd_units.specs.Readings.{unit_text}
use Rattle.pd_scenario_tables.specs.declared.schema.Key.{Key}
use Rattle.pd_scenario_tables.specs.declared.schema.Form.{Form}
use Rattle.pd_scenario_tables.specs.declared.schema.Form.TheVariants.{Number, VersionNumber, PortNumber, RatingNumber, RevisionNumber, Name}
use Rattle.pd_scenario_tables.specs.declared.schema.Form.TheVariants.{PlugWord, ModeWord, EventWord, Truth, Supplies, Tables}
use Rattle.pd_scenario_tables.specs.declared.fault.ScenarioFault.{ScenarioFault}
use Rattle.pd_scenario_tables.specs.declared.fault.ScenarioFault.TheVariants as fault
use Rattle.pd_scenario_tables.specs.Schema.{text_of}
use Rattle.pd_scenario_tables.specs.Values.{elements}
use Rattle.pd_misfits.specs.Supplies.{supplies_text}
use Rattle.pd_misfits.specs.Values.{quoted, value_text}

-- ---- what stands there

-- of a list of supplies the first that isn't what is wanted, too
abbrev pub shown_text : ScenarioFault → Form → Data → List ℕ
shown_text refusal Supplies (array ds) = supplies_text refusal (elements ds)
shown_text refusal form d = value_text d

-- ---- what is wanted there

abbrev pub type_text : Form → List ℕ
type_text (Number quantity) = codes "a whole number"
type_text VersionNumber = codes "a whole number"
type_text PortNumber = codes "a whole number"
type_text RatingNumber = codes "a whole number"
type_text RevisionNumber = codes "a whole number"
type_text Name = codes "a text"
type_text PlugWord = codes "a text"
type_text ModeWord = codes "a text"
type_text EventWord = codes "a text"
type_text Truth = codes "true or false"
type_text Supplies = codes "a list of pairs of whole numbers"
type_text Tables = codes "a list of tables, each under its name in double brackets"

unfoldable pub from_to : ℕ → ℕ → List ℕ
from_to low high = decimal low ++ (codes " to " ++ decimal high)

abbrev pub limits_text : Range → List ℕ
limits_text (between low high) = from_to low high
limits_text (stepped low high step) = from_to low high

abbrev pub steps_text : Range → List ℕ
steps_text (between low high) = []
steps_text (stepped low high step) = codes " in steps of " ++ decimal step

-- the numbers of a quantity, with its unit
unfoldable pub within_text : Quantity → List ℕ
within_text quantity = limits_text (range_of quantity) ++ (unit_text quantity ++ steps_text (range_of quantity))

abbrev pub range_text : ℕ → Form → List ℕ
range_text ports (Number quantity) = within_text quantity
range_text ports VersionNumber = codes "1 or 2"
range_text ports PortNumber = from_to 1 ports
range_text ports RatingNumber = codes "3000 or 5000 mA"
range_text ports RevisionNumber = codes "2 or 3"
range_text ports PlugWord = codes "one of none, ack, nak, busy, silent"
range_text ports ModeWord = codes "one of pd, plain, greedy"
range_text ports EventWord = codes "one of attach, detach, demand, lose, damage, get_source, get_sink, and under version 2 budget"
range_text ports Supplies =
    codes "pairs of a voltage of 5000 to 20000 mV in steps of 50 and a current of 10 to 5000 mA in steps of 10"
range_text ports Name = []
range_text ports Truth = []
range_text ports Tables = []

-- what the rule of a refusal wants of a value of a form
abbrev pub wanted_text : ScenarioFault → ℕ → Form → List ℕ
wanted_text fault.WrongType ports form = type_text form
wanted_text fault.Range ports form = range_text ports form
wanted_text fault.Name ports form = codes "1 to 16 letters and digits"
wanted_text fault.Supplies ports form = codes "1 to 7 pairs, the first of 5000 mV, each voltage above the one before"
wanted_text _ ports form = []

-- ---- the sentences

unfoldable pub value_sentence : ScenarioFault → ℕ → Key → Form → Data → List ℕ
value_sentence refusal ports k form d =
    quoted (text_of k) ++ (codes " is " ++ (shown_text refusal form d ++ (codes ", not " ++ wanted_text refusal ports form)))

unfoldable pub missing_sentence : Key → List ℕ
missing_sentence k = quoted (text_of k) ++ codes " is missing"

unfoldable pub unknown_sentence : List ℕ → List ℕ
unknown_sentence word = quoted word ++ codes " is no key of this table; there are"
