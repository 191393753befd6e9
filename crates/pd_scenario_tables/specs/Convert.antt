-- What one table of a file says.
use Rattle.std.specs.Prelude.{map, unwrap_or}
use Rattle.toml.specs.Data.{Members}
use Rattle.pd_identity.specs.declared.CablePlug.TheVariants.{Absent}
use Rattle.pd_identity.specs.declared.Rating.TheVariants.{ThreeAmperes}
use Rattle.pd_setup.specs.declared.sink.SinkRevision.TheVariants.{Revision3}
use Rattle.pd_packet.specs.Damage.{DamageData}
use Rattle.pd_setup.specs.Events.{KindWord, by_kind}
use Rattle.pd_setup.specs.Settings.{SettingsData}
use Rattle.pd_scenario.specs.declared.named.NamedCable.{NamedCable}
use Rattle.pd_scenario.specs.declared.named.NamedSink.{NamedSink}
use Rattle.pd_scenario.specs.Events.{ScenarioEventKind}
use Rattle.pd_setup.specs.declared.event.EventKind.TheVariants.{Attach, Detach, Demand, Damage}
use Rattle.pd_scenario.specs.declared.event.ScenarioHappening.{ScenarioHappening}
use Rattle.pd_scenario.specs.declared.event.ScenarioHappening.TheVariants.{OnPort, Budget}
use Rattle.pd_scenario.specs.declared.event.ScenarioEvent.{ScenarioEvent}
use Rattle.pd_scenario_tables.specs.declared.schema.Version.{Version}
use Rattle.pd_scenario_tables.specs.declared.schema.Version.TheVariants.{Two}
use Rattle.pd_scenario_tables.specs.declared.schema.EventName.{EventName}
use Rattle.pd_scenario_tables.specs.declared.schema.EventName.TheVariants as event
use Rattle.pd_scenario_tables.specs.declared.schema.Key.TheVariants as key
use Rattle.pd_scenario_tables.specs.Schema.{port_rules, cable_rules, sink_rules, any_event, on_port, kind_rules, event_rules}
use Rattle.pd_scenario.specs.Words.{plug_of, rating_of}
use Rattle.pd_scenario_tables.specs.Words.{revision_of}
use Rattle.pd_scenario_tables.specs.Values.{natural, supply_of}
use Rattle.pd_scenario_tables.specs.Tables.{whole_at, number_at, truth_at, word_at, elements_at, mode_at, event_at}

abbrev pub settings_of : Members → SettingsData
settings_of t = record {
  floor_mw = number_at port_rules key.Floor t;
  supplies = map supply_of (elements_at key.Supplies t);
  identity_tries = number_at port_rules key.IdentityTries t;
  unconstrained = truth_at port_rules key.Unconstrained t;
}

abbrev pub cable_of : Members → NamedCable
cable_of t = record {
  name = word_at key.Name t;
  cable = record {
    plug = unwrap_or (plug_of (word_at key.Plug t)) Absent;
    rating = unwrap_or (rating_of (natural (whole_at cable_rules key.Rating t))) ThreeAmperes;
  };
}

-- a sink of a file of the first version, which has no key for it, is of Revision 3.0
abbrev pub sink_of : Members → NamedSink
sink_of t = record {
  name = word_at key.Name t;
  sink = record {
    max_mv = number_at (sink_rules Two) key.Max t;
    demand_mw = number_at (sink_rules Two) key.Demand t;
    mode = mode_at (sink_rules Two) t;
    revision = unwrap_or (revision_of (whole_at (sink_rules Two) key.Revision t)) Revision3;
  };
}

abbrev pub on : Members → ScenarioEventKind → ScenarioHappening
on t kind = OnPort (number_at on_port key.Port t) kind

abbrev pub damage_of : Members → DamageData
damage_of t = record {
  place = number_at (kind_rules (Damage tt)) key.Place t;
  mask = number_at (kind_rules (Damage tt)) key.Mask t;
}

-- what happens on the port of an event
abbrev pub kind_in : KindWord → Members → ScenarioEventKind
kind_in kind t =
    by_kind (λ cable sink. Attach (word_at key.Cable t) (word_at key.Sink t))
    (λ power. Demand (number_at (kind_rules (Demand tt)) key.Mw t))
    (λ harm. Damage (damage_of t))
    (λ plain. plain) kind

-- what an event says; one of no known kind is refused
abbrev pub happening_of : EventName → Members → ScenarioHappening
happening_of (event.OnPort kind) t = on t (kind_in kind t)
happening_of event.Budget t = Budget (number_at (event_rules event.Budget) key.Mw t)
happening_of event.Unknown t = on t Detach

abbrev pub event_of : Version → Members → ScenarioEvent
event_of version t = record {
  id = number_at any_event key.Id t;
  at = number_at any_event key.At t;
  happening = happening_of (event_at version t) t;
}
