-- The refusals of single tables are told exactly where they apply.
use Rattle.std.proofs.Common.{ℕ, ◌+◌, Bool, not, ◌&&◌, List, [], ◌∷◌, ◌++◌, codes, is_none, Option, Some, None, refl}
use Rattle.std.specs.List.{list_any}
use Rattle.pd_misfits.specs.Spots.{SpotData}
use Rattle.toml.specs.Data.{Data, Members}
use Rattle.pd_scenario_tables.specs.declared.schema.Version.{Version}
use Rattle.pd_scenario_tables.specs.declared.schema.TableKind.{TableKind}
use Rattle.pd_scenario_tables.specs.declared.schema.TableKind.TheVariants.{Top, Port, Cable, Sink, Event}
use Rattle.pd_scenario_tables.specs.declared.schema.Rule.{Rule}
use Rattle.pd_scenario_tables.specs.declared.fault.ScenarioFault.{ScenarioFault}
use Rattle.pd_scenario_tables.specs.declared.fault.ScenarioFault.TheVariants as fault
use Rattle.pd_scenario_tables.specs.Schema.{rules_of, text_of}
use Rattle.pd_scenario_tables.specs.Tables.{value_at, value_fails, event_at, keys_of, has_key, is_required, fails, event_fails}
use Rattle.pd_scenario_tables.specs.Values.{passes}
use Rattle.pd_scenario_text.specs.FileTables.{Tables}
use Rattle.pd_scenario_text.specs.Refusals.{fails_somewhere}
use Rattle.pd_misfits.specs.Sentences.{value_sentence, missing_sentence, unknown_sentence}
use Rattle.pd_misfits.specs.Hints.{key_hint, value_hint}
use Rattle.pd_misfits.specs.Values.{shown}
use Rattle.pd_misfits.specs.Lines.{value_part, missing_part, rule_part, key_part, unknown_line, known_keys, table_text, table_spot}
use Rattle.pd_misfits.specs.Lines.{event_spot, event_pieces, table_pieces}
use Rattle.pd_misfits.specs.Lines.{list_text, events_text, lists_text, tables_text}
use Rattle.pd_places.proofs.Told.{Told, or_told, any_told, shorter, unless_told, required_told, none_told}

value_told : (spot : SpotData) (refusal : ScenarioFault) (version : Version) (ports : ℕ) (r : Rule) (o : Option Data)
    → Told spot (value_fails (passes refusal version ports r.form) o) (value_part spot refusal version ports r o)
value_told spot refusal version ports r None = refl
value_told spot refusal version ports r (Some d) =
    unless_told spot (passes refusal version ports r.form d) (text_of r.key)
    (value_sentence refusal ports r.key r.form d) (value_hint refusal version r.key r.form d)

missing_told : (spot : SpotData) (r : Rule) (o : Option Data) → Told spot (is_required r.need && is_none o) (missing_part spot r o)
missing_told spot r None = required_told spot (is_required r.need) (text_of r.key) (missing_sentence r.key)
missing_told spot r (Some d) = none_told spot (is_required r.need)

unknown_told : (spot : SpotData) (version : Version) (kind : TableKind) (k : List ℕ)
    → Told spot (not (has_key (rules_of version kind) k)) (key_part spot version kind k)
unfolding unknown_line
unknown_told spot version kind k =
    unless_told spot (has_key (rules_of version kind) k)
    (shown k) (unknown_sentence k ++ known_keys version kind) (key_hint version kind k)

-- one table
pub table_told : (spot : SpotData) (refusal : ScenarioFault) (version : Version) (ports : ℕ) (kind : TableKind) (t : Members)
    → Told spot (fails refusal version ports kind t) (table_text spot refusal version ports kind t)
unfolding fails
table_told spot fault.UnknownKey version ports kind t =
    any_told spot (λ k. not (has_key (rules_of version kind) k)) (key_part spot version kind) (keys_of t)
    (unknown_told spot version kind)
table_told spot fault.MissingKey version ports kind t =
    any_told spot (λ (r : Rule). is_required r.need && is_none (value_at r.key t))
    (rule_part spot fault.MissingKey version ports t) (rules_of version kind)
    (λ (r : Rule). missing_told spot r (value_at r.key t))
table_told spot refusal version ports kind t =
    any_told spot (λ (r : Rule). value_fails (passes refusal version ports r.form) (value_at r.key t))
    (rule_part spot refusal version ports t) (rules_of version kind)
    (λ (r : Rule). value_told spot refusal version ports r (value_at r.key t))

pub numbered_told : (spot : SpotData) (word : List ℕ) (number : ℕ) (b : Bool) (text : List ℕ)
    → Told (table_spot spot word number) b text
    → Told spot b text
numbered_told spot word number b text told = shorter spot word number (table_pieces word number) b text told

pub event_told : (spot : SpotData) (version : Version) (number : ℕ) (t : Members) (b : Bool) (text : List ℕ)
    → Told (event_spot spot version number t) b text → Told spot b text
event_told spot version number t b text told =
    shorter spot (codes "event") number (event_pieces version number t) b text told

list_told : (spot : SpotData) (word : List ℕ) (refusal : ScenarioFault) (version : Version) (ports : ℕ) (kind : TableKind) (number : ℕ)
    (ts : List Members)
    → Told spot (list_any (fails refusal version ports kind) ts) (list_text spot word refusal version ports kind number ts)
unfolding list_text
list_told spot word refusal version ports kind number [] = refl
list_told spot word refusal version ports kind number (t ∷ ts) =
    or_told spot (fails refusal version ports kind t) (list_any (fails refusal version ports kind) ts)
    (table_text (table_spot spot word number) refusal version ports kind t)
    (list_text spot word refusal version ports kind (number + 1) ts)
    (numbered_told spot word number _ _ (table_told (table_spot spot word number) refusal version ports kind t))
    (list_told spot word refusal version ports kind (number + 1) ts)

events_told : (spot : SpotData) (refusal : ScenarioFault) (version : Version) (ports number : ℕ) (ts : List Members)
    → Told spot (list_any (event_fails refusal version ports) ts) (events_text spot refusal version ports number ts)
unfolding events_text
events_told spot refusal version ports number [] = refl
events_told spot refusal version ports number (t ∷ ts) =
    or_told spot (event_fails refusal version ports t) (list_any (event_fails refusal version ports) ts)
    (table_text (event_spot spot version number t) refusal version ports (Event (event_at version t)) t)
    (events_text spot refusal version ports (number + 1) ts)
    (event_told spot version number t _ _
    (table_told (event_spot spot version number t) refusal version ports (Event (event_at version t)) t))
    (events_told spot refusal version ports (number + 1) ts)

-- all tables
pub tables_told : (spot : SpotData) (refusal : ScenarioFault) (ports : ℕ) (d : Tables)
    → Told spot (fails_somewhere refusal ports d) (tables_text spot refusal ports d)
unfolding fails_somewhere tables_text lists_text
tables_told spot refusal ports d =
    or_told spot _ _ _ _ (table_told spot refusal d.version ports Top d.top)
    (or_told spot _ _ _ _ (list_told spot (codes "port") refusal d.version ports Port 1 d.ports)
    (or_told spot _ _ _ _ (list_told spot (codes "cable") refusal d.version ports Cable 1 d.cables)
    (or_told spot _ _ _ _ (list_told spot (codes "sink") refusal d.version ports Sink 1 d.sinks)
    (events_told spot refusal d.version ports 1 d.events))))
