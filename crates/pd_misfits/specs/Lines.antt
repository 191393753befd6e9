-- The lines that tell where the tables of a scenario file break the rule of a refusal.
use Rattle.std.specs.Prelude.{ℕ, ℤ, ◌+◌, List, [], ◌∷◌, ◌++◌, length, codes, Option, None, Some, if◌then◌else◌}
use Rattle.std.specs.List.{flat_map}
use Rattle.pd_text.specs.declared.piece.Unit.TheVariants.{Plain}
use Rattle.pd_text.specs.Pieces.{PieceData}
use Rattle.pd_text.specs.Pieces as piece
use Rattle.pd_text.specs.Fronts.{line_with, said}
use Rattle.toml.specs.Data.{Data, Members, string, integer}
use Rattle.pd_scenario_tables.specs.declared.schema.Version.{Version}
use Rattle.pd_scenario_tables.specs.declared.schema.EventName.{EventName}
use Rattle.pd_scenario_tables.specs.declared.schema.EventName.TheVariants.{OnPort, Budget, Unknown}
use Rattle.pd_scenario_tables.specs.declared.schema.Key.TheVariants as key
use Rattle.pd_scenario_tables.specs.declared.schema.TableKind.{TableKind}
use Rattle.pd_scenario_tables.specs.declared.schema.TableKind.TheVariants.{Top, Port, Cable, Sink, Event}
use Rattle.pd_scenario_tables.specs.declared.schema.Rule.{Rule}
use Rattle.pd_scenario_tables.specs.declared.fault.ScenarioFault.{ScenarioFault}
use Rattle.pd_scenario_tables.specs.declared.fault.ScenarioFault.TheVariants as fault
use Rattle.pd_scenario_tables.specs.Schema.{text_of, rules_of}
use Rattle.pd_scenario_tables.specs.Tables.{value_at, event_at, keys_of, has_key, is_required}
use Rattle.pd_scenario_tables.specs.Values.{passes}
use Rattle.pd_scenario_text.specs.FileTables.{Tables}
use Rattle.pd_misfits.specs.Spots.{FileData, SpotData, file_spot, spot_front, spot_in}
use Rattle.pd_misfits.specs.Hints.{key_hint, value_hint}
use Rattle.pd_misfits.specs.Values.{shown}
use Rattle.pd_misfits.specs.Sentences.{value_sentence, missing_sentence, unknown_sentence}

-- a sentence of a key behind what is told first of its line, with what is likelier meant, where these are known
unfoldable pub line : SpotData → List ℕ → List ℕ → List ℕ → List ℕ
line spot word sentence hint = line_with (spot_front spot word) (said word sentence hint)

-- a sentence of a key that isn't there, behind what is told first of the table's head
unfoldable pub head_line : SpotData → List ℕ → List ℕ → List ℕ
head_line spot word sentence = line_with (spot_front spot []) (said word sentence [])

-- ---- one key

-- a value is told where it is one to which the refusal applies
abbrev pub value_part : SpotData → ScenarioFault → Version → ℕ → Rule → Option Data → List ℕ
value_part spot refusal version ports r None = []
value_part spot refusal version ports r (Some d) =
    if passes refusal version ports r.form d then []
    else line spot (text_of r.key) (value_sentence refusal ports r.key r.form d) (value_hint refusal version r.key r.form d)

-- a key is told where it is absent and nothing stands for it
abbrev pub missing_part : SpotData → Rule → Option Data → List ℕ
missing_part spot r None = if is_required r.need then head_line spot (text_of r.key) (missing_sentence r.key) else []
missing_part spot r (Some d) = []

abbrev pub rule_part : SpotData → ScenarioFault → Version → ℕ → Members → Rule → List ℕ
rule_part spot fault.MissingKey version ports t r = missing_part spot r (value_at r.key t)
rule_part spot refusal version ports t r = value_part spot refusal version ports r (value_at r.key t)

-- the keys that a table may have, each behind a space
unfoldable pub key_word : Rule → List ℕ
key_word r = 32 ∷ text_of r.key

unfoldable pub known_keys : Version → TableKind → List ℕ
known_keys version kind = flat_map key_word (rules_of version kind)

unfoldable pub unknown_line : SpotData → Version → TableKind → List ℕ → List ℕ
unknown_line spot version kind k = line spot (shown k) (unknown_sentence k ++ known_keys version kind) (key_hint version kind k)

-- a key is told that no rule has
abbrev pub key_part : SpotData → Version → TableKind → List ℕ → List ℕ
key_part spot version kind k = if has_key (rules_of version kind) k then [] else unknown_line spot version kind k

-- ---- one table

abbrev pub table_text : SpotData → ScenarioFault → Version → ℕ → TableKind → Members → List ℕ
table_text spot fault.UnknownKey version ports kind t = flat_map (key_part spot version kind) (keys_of t)
table_text spot refusal version ports kind t = flat_map (rule_part spot refusal version ports t) (rules_of version kind)

-- ---- a whole file

-- a table by its place among those of its kind, from 1
abbrev pub table_pieces : List ℕ → ℕ → List PieceData
table_pieces word number =
    piece.name word (codes "table") word ∷ piece.number (codes " ") (codes "number") Plain number ∷ piece.line_words (codes ": ") ∷ []

abbrev pub table_spot : SpotData → List ℕ → ℕ → SpotData
table_spot spot word number = spot_in spot word number (table_pieces word number)

-- ---- an event by its place, and by its id, its port and its kind where these can be read

-- the whole number, or the word, at a key
abbrev pub whole_of : Option Data → Option ℤ
whole_of (Some (integer z)) = Some z
whole_of _ = None

abbrev pub word_of : Option Data → List ℕ
word_of (Some (string word)) = word
word_of _ = []

-- a kind that the file's version has
abbrev pub known_word : EventName → Option Data → List ℕ
known_word Unknown d = []
known_word (OnPort kind) d = word_of d
known_word Budget d = word_of d

-- in brackets, with commas between them
abbrev pub port_words : Option ℤ → List ℕ
port_words None = codes " (port "
port_words (Some id) = codes ", port "

abbrev pub kind_words : Option ℤ → Option ℤ → List ℕ
kind_words None None = codes " ("
kind_words _ _ = codes ", "

abbrev pub end_words : Option ℤ → Option ℤ → List ℕ → List ℕ
end_words None None [] = codes ": "
end_words _ _ _ = codes "): "

abbrev pub told_pieces : ℕ → Option ℤ → Option ℤ → List ℕ → List PieceData
told_pieces number id port kind =
    piece.name (codes "event") (codes "table") (codes "event") ∷ piece.number (codes " ") (codes "number") Plain number
    ∷ piece.whole_number (codes " (id ") (codes "id") id ∷ piece.whole_number (port_words id) (codes "port") port
    ∷ piece.string (kind_words id port) (codes "kind") kind ∷ piece.line_words (end_words id port kind) ∷ []

abbrev pub event_pieces : Version → ℕ → Members → List PieceData
event_pieces version number t =
    told_pieces number (whole_of (value_at key.Id t)) (whole_of (value_at key.Port t))
    (known_word (event_at version t) (value_at key.Kind t))

abbrev pub event_spot : SpotData → Version → ℕ → Members → SpotData
event_spot spot version number t = spot_in spot (codes "event") number (event_pieces version number t)

-- the tables of a kind, the first of which has this number
unfoldable pub list_text : SpotData → List ℕ → ScenarioFault → Version → ℕ → TableKind → ℕ → List Members → List ℕ
list_text spot word refusal version ports kind number [] = []
list_text spot word refusal version ports kind number (t ∷ ts) =
    table_text (table_spot spot word number) refusal version ports kind t
    ++ list_text spot word refusal version ports kind (number + 1) ts

-- the events, by what the kind of each says
unfoldable pub events_text : SpotData → ScenarioFault → Version → ℕ → ℕ → List Members → List ℕ
events_text spot refusal version ports number [] = []
events_text spot refusal version ports number (t ∷ ts) =
    table_text (event_spot spot version number t) refusal version ports (Event (event_at version t)) t
    ++ events_text spot refusal version ports (number + 1) ts

unfoldable pub lists_text : SpotData → ScenarioFault → Version → ℕ → Tables → List ℕ
lists_text spot refusal version ports d =
    list_text spot (codes "port") refusal version ports Port 1 d.ports
    ++ (list_text spot (codes "cable") refusal version ports Cable 1 d.cables
    ++ (list_text spot (codes "sink") refusal version ports Sink 1 d.sinks ++ events_text spot refusal version ports 1 d.events))

unfoldable pub tables_text : SpotData → ScenarioFault → ℕ → Tables → List ℕ
tables_text spot refusal ports d =
    table_text spot refusal d.version ports Top d.top ++ lists_text spot refusal d.version ports d

-- each place of a file at which the rule of a refusal of single tables is broken, in the order of the file's tables
abbrev pub file_text : FileData → ScenarioFault → Tables → List ℕ
file_text file refusal d = tables_text (file_spot file refusal) refusal (length d.ports) d

-- the same of its top table alone, whose rules need no count of the ports
abbrev pub top_text : FileData → ScenarioFault → Tables → List ℕ
top_text file refusal d = table_text (file_spot file refusal) refusal d.version (length d.ports) Top d.top
