-- The format of a scenario file: one line for each key of each kind of table, with what stands where it is absent and
-- what its value has to be.
use Rattle.std.specs.Prelude.{ℕ, pos, false, List, [], ◌∷◌, ◌++◌, codes}
use Rattle.pd_setup.specs.Events.{KindWord}
use Rattle.pd_setup.specs.declared.event.EventKind.TheVariants.{Attach, Demand, Damage}
use Rattle.pd_setup.specs.declared.sink.SinkMode.TheVariants.{PowerDelivery}
use Rattle.pd_scenario.specs.declared.limits.Quantity.TheVariants as quantity
use Rattle.pd_scenario_tables.specs.declared.schema.Version.{Version}
use Rattle.pd_scenario_tables.specs.declared.schema.Version.TheVariants.{One, Two}
use Rattle.pd_scenario_tables.specs.declared.schema.EventName.{EventName}
use Rattle.pd_scenario_tables.specs.declared.schema.EventName.TheVariants as event
use Rattle.pd_scenario_tables.specs.declared.schema.TableKind.{TableKind}
use Rattle.pd_scenario_tables.specs.declared.schema.TableKind.TheVariants.{Top, Port, Cable, Sink, Event}
use Rattle.pd_scenario_tables.specs.declared.schema.Key.{Key}
use Rattle.pd_scenario_tables.specs.declared.schema.Key.TheVariants as key
use Rattle.pd_scenario_tables.specs.declared.schema.Need.{Need}
use Rattle.pd_scenario_tables.specs.declared.schema.Need.TheVariants as need
use Rattle.pd_scenario_tables.specs.declared.schema.Need.TheVariants.{Required, Nothing}
use Rattle.pd_scenario_tables.specs.declared.schema.Form.{Form}
use Rattle.pd_scenario_tables.specs.declared.schema.Form.TheVariants.{Number, VersionNumber, PortNumber, RatingNumber, RevisionNumber, Name}
use Rattle.pd_scenario_tables.specs.declared.schema.Form.TheVariants.{PlugWord, ModeWord, EventWord, Truth, Supplies, Tables}
use Rattle.pd_scenario_tables.specs.declared.schema.Rule.{Rule}

abbrev pub text_of : Key → List ℕ
text_of key.Version = codes "version"
text_of key.End = codes "end"
text_of key.Budget = codes "budget"
text_of key.Port = codes "port"
text_of key.Cable = codes "cable"
text_of key.Sink = codes "sink"
text_of key.Event = codes "event"
text_of key.Floor = codes "floor"
text_of key.Supplies = codes "supplies"
text_of key.IdentityTries = codes "identity_tries"
text_of key.Unconstrained = codes "unconstrained"
text_of key.Name = codes "name"
text_of key.Plug = codes "plug"
text_of key.Rating = codes "rating"
text_of key.Max = codes "max"
text_of key.Demand = codes "demand"
text_of key.Mode = codes "mode"
text_of key.Revision = codes "revision"
text_of key.Id = codes "id"
text_of key.At = codes "at"
text_of key.Kind = codes "kind"
text_of key.Mw = codes "mw"
text_of key.Place = codes "place"
text_of key.Mask = codes "mask"

abbrev pub rule : Key → Need → Form → Rule
rule k n f = record { key = k; need = n; form = f }

-- the top of a file
abbrev pub top_rules : List Rule
top_rules =
    rule key.Version Required VersionNumber
    ∷ rule key.End Required (Number quantity.Time)
    ∷ rule key.Budget Required (Number quantity.Budget)
    ∷ rule key.Port Required Tables
    ∷ rule key.Cable Nothing Tables
    ∷ rule key.Sink Nothing Tables
    ∷ rule key.Event Nothing Tables
    ∷ []

-- [[port]]
abbrev pub port_rules : List Rule
port_rules =
    rule key.Floor Required (Number quantity.Floor)
    ∷ rule key.Supplies Required Supplies
    ∷ rule key.IdentityTries (need.Number (pos 3)) (Number quantity.IdentityTries)
    ∷ rule key.Unconstrained (need.Truth false) Truth
    ∷ []

-- [[cable]]
abbrev pub cable_rules : List Rule
cable_rules =
    rule key.Name Required Name
    ∷ rule key.Plug Required PlugWord
    ∷ rule key.Rating Required RatingNumber
    ∷ []

-- [[sink]]
abbrev pub sink_rules : Version → List Rule
sink_rules One =
    rule key.Name Required Name
    ∷ rule key.Max Required (Number quantity.Voltage)
    ∷ rule key.Demand Required (Number quantity.Demand)
    ∷ rule key.Mode (need.Mode PowerDelivery) ModeWord
    ∷ []
sink_rules Two =
    rule key.Name Required Name
    ∷ rule key.Max Required (Number quantity.Voltage)
    ∷ rule key.Demand Required (Number quantity.Demand)
    ∷ rule key.Mode (need.Mode PowerDelivery) ModeWord
    ∷ rule key.Revision (need.Number (pos 3)) RevisionNumber
    ∷ []

-- each [[event]]
abbrev pub any_event : List Rule
any_event =
    rule key.Id Required (Number quantity.EventId)
    ∷ rule key.At Required (Number quantity.Time)
    ∷ rule key.Kind Required EventWord
    ∷ []

-- each [[event]] of a port
abbrev pub on_port : List Rule
on_port = rule key.Port Required PortNumber ∷ any_event

-- each [[event]] of a port, by its kind
abbrev pub kind_rules : KindWord → List Rule
kind_rules (Attach cable sink) = rule key.Cable Required Name ∷ rule key.Sink Required Name ∷ on_port
kind_rules (Demand power) = rule key.Mw Required (Number quantity.Demand) ∷ on_port
kind_rules (Damage harm) =
    rule key.Place Required (Number quantity.DamagePlace) ∷ rule key.Mask Required (Number quantity.DamageMask) ∷ on_port
kind_rules _ = on_port

-- an [[event]] of no known kind may have all keys of the others
abbrev pub unknown_rules : List Rule
unknown_rules =
    rule key.Cable Nothing Name
    ∷ rule key.Sink Nothing Name
    ∷ rule key.Mw Nothing (Number quantity.Demand)
    ∷ rule key.Place Nothing (Number quantity.DamagePlace)
    ∷ rule key.Mask Nothing (Number quantity.DamageMask)
    ∷ []

-- [[event]] by what its word says
abbrev pub event_rules : EventName → List Rule
event_rules (event.OnPort kind) = kind_rules kind
event_rules event.Budget = rule key.Mw Required (Number quantity.Budget) ∷ any_event
event_rules event.Unknown = unknown_rules ++ on_port

abbrev pub rules_of : Version → TableKind → List Rule
rules_of version Top = top_rules
rules_of version Port = port_rules
rules_of version Cable = cable_rules
rules_of version Sink = sink_rules version
rules_of version (Event name) = event_rules name
