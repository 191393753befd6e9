-- What the tables of a file say together.
use Rattle.std.specs.Prelude.{List, map}
use Rattle.toml.specs.Data.{Members}
use Rattle.pd_scenario.specs.Scenarios.{ScenarioData}
use Rattle.pd_scenario_tables.specs.declared.schema.Version.{Version}
use Rattle.pd_scenario_tables.specs.declared.schema.Key.TheVariants as key
use Rattle.pd_scenario_tables.specs.Schema.{top_rules}
use Rattle.pd_scenario_tables.specs.Tables.{number_at, tables_at, version_at}
use Rattle.pd_scenario_tables.specs.Convert.{settings_of, cable_of, sink_of, event_of}

-- the tables of a file
pub record Tables : Type 0 where
  pub version : Version
  pub top : Members
  pub ports : List Members
  pub cables : List Members
  pub sinks : List Members
  pub events : List Members

abbrev pub tables_of : Members → Tables
tables_of t = record {
  version = version_at t;
  top = t;
  ports = tables_at key.Port t;
  cables = tables_at key.Cable t;
  sinks = tables_at key.Sink t;
  events = tables_at key.Event t;
}

abbrev pub scenario_of : Tables → ScenarioData
scenario_of d = record {
  settings = map settings_of d.ports;
  cables = map cable_of d.cables;
  sinks = map sink_of d.sinks;
  events = map (event_of d.version) d.events;
  budget_mw = number_at top_rules key.Budget d.top;
  end_us = number_at top_rules key.End d.top;
}
