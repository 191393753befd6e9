-- What the schema says of each key, each list and each kind of event to a person: an editor shows it beside the key. A number that
-- has a unit has it here. No text has a quotation mark or a backslash, so that it stands in JSON as it is.
use Rattle.std.specs.Prelude.{ℕ, List, codes}
use Rattle.pd_setup.specs.declared.event.EventKind.TheVariants.{Attach, Detach, Demand, Lose, Damage, GetSource, GetSink}
use Rattle.pd_scenario_tables.specs.declared.schema.EventName.{EventName}
use Rattle.pd_scenario_tables.specs.declared.schema.EventName.TheVariants.{OnPort, Budget, Unknown}
use Rattle.pd_scenario_tables.specs.declared.schema.Form.{Form}
use Rattle.pd_scenario_tables.specs.declared.schema.Form.TheVariants.{Tables}
use Rattle.pd_scenario_tables.specs.declared.schema.Key.{Key}
use Rattle.pd_scenario_tables.specs.declared.schema.Key.TheVariants as key

-- a list of tables
abbrev pub list_meaning : Key → List ℕ
list_meaning key.Port = codes "The ports of the charger, numbered from 1 in the order of the file."
list_meaning key.Cable = codes "The cables that may be attached."
list_meaning key.Sink = codes "The sinks that may be attached."
list_meaning k = codes "What happens, and when."

abbrev pub key_meaning : Key → List ℕ
key_meaning key.Version = codes "The format of the file. 2 also has timed budgets and sinks of revision 2.0."
key_meaning key.End = codes "When the run ends, in microseconds."
key_meaning key.Budget = codes "The power that the ports share, in mW."
key_meaning key.Port = codes "The port on which it happens, from 1 in the order of the file."
key_meaning key.Cable = codes "The name of the cable through which the sink is attached."
key_meaning key.Sink = codes "The name of the sink that is attached."
key_meaning key.Event = codes "What happens, and when."
key_meaning key.Floor = codes "The power that the port always holds, in mW. All floors add to at most the least budget."
key_meaning key.Supplies =
    codes "What the port offers: pairs of a voltage in mV and a current in mA. The first has 5,000 mV, and voltages rise."
key_meaning key.IdentityTries = codes "How often the cable is asked who it is. If never, it carries 3,000 mA."
key_meaning key.Unconstrained = codes "Whether the offer of the port says that its power is unconstrained."
key_meaning key.Name =
    codes "The name by which events attach it: 1 to 16 ASCII letters and digits. No two cables have one name, and no two sinks."
key_meaning key.Plug = codes "What its plug answers when asked who it is; none is a cable without an e-marker."
key_meaning key.Rating = codes "The current in mA that the cable is built for."
key_meaning key.Max = codes "The greatest voltage that the sink accepts, in mV."
key_meaning key.Demand = codes "The power that the sink wants, in mW."
key_meaning key.Mode =
    codes "How the sink behaves: pd; plain, without USB Power Delivery; greedy, which asks for what it needs whatever it is offered."
key_meaning key.Revision = codes "The revision of USB Power Delivery that the sink speaks: 2.0 or 3.0."
key_meaning key.Id = codes "The number of the event. No two events have one number."
key_meaning key.At = codes "When it happens, in microseconds."
key_meaning key.Kind = codes "What happens. The other keys of the event are those of its kind."
key_meaning key.Mw = codes "The power in mW that the sink wants from now on, or that the ports share."
key_meaning key.Place = codes "Which code of the packet is changed, from 0 behind the ordered set."
key_meaning key.Mask = codes "Which bits of that code are turned, as a number."

abbrev pub meaning : Key → Form → List ℕ
meaning k Tables = list_meaning k
meaning k form = key_meaning k

-- an event, by what its word says; there is no event of no known kind
abbrev pub event_meaning : EventName → List ℕ
event_meaning (OnPort (Attach cable sink)) = codes "The sink is attached through the cable."
event_meaning (OnPort Detach) = codes "The cable is pulled out."
event_meaning (OnPort (Demand power)) = codes "The sink wants another power from now on."
event_meaning (OnPort Lose) = codes "The next packet that starts is lost."
event_meaning (OnPort (Damage harm)) = codes "The next packet that starts is damaged: the mask changes one of its codes."
event_meaning (OnPort GetSource) = codes "The sink asks for the capabilities of the source."
event_meaning (OnPort GetSink) = codes "The source asks for the capabilities of the sink."
event_meaning Budget = codes "The budget that the ports share is another from now on."
event_meaning Unknown = codes "Nothing."
