-- The tables that the code keeps of a file, and how it finds that all of them are clean.
use Rattle.std.specs.Prelude.{ℕ, Bool, ◌&&◌}
use Rattle.std.specs.List.{list_all}
use Rattle.toml.specs.View.{table_view}
use Rattle.pd_scenario_tables.specs.declared.schema.TableKind.TheVariants.{Top, Port, Cable, Sink}
use Rattle.pd_scenario_tables.specs.Seen.{views}
use Rattle.pd_scenario_tables.specs.Clean.{is_clean, is_clean_event}
use Rattle.pd_scenario_text.specs.FileTables.{Tables}
use Rattle.pd_scenario_text.specs.declared.document.Document.{Document}

abbrev pub seen : Document → Tables
seen d = record {
  version = d.version;
  top = table_view d.top.now;
  ports = views d.ports.items;
  cables = views d.cables.items;
  sinks = views d.sinks.items;
  events = views d.events.items;
}

-- none of the refusals up to the names applies to any table of a file for so many ports
unfoldable pub are_clean : ℕ → Tables → Bool
are_clean ports d =
    is_clean d.version ports Top d.top
    && (list_all (is_clean d.version ports Port) d.ports
    && (list_all (is_clean d.version ports Cable) d.cables
    && (list_all (is_clean d.version ports Sink) d.sinks && list_all (is_clean_event d.version ports) d.events)))
