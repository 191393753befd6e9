-- Refusal 10: an attach by a name that no cable, or no sink, has.
use Rattle.std.specs.Prelude.{ℕ, ◌-◌, ◌&&◌, ◌==◌, not, nat_lt, List, [], ◌∷◌, ◌++◌, length, take, codes, decimal, bytes_eq, if◌then◌else◌}
use Rattle.std.specs.List.{list_any, flat_map}
use Rattle.toml.specs.Data.{Members}
use Rattle.pd_hints.specs.Slips.{meant_text, nearest}
use Rattle.pd_setup.specs.Events.{KindWord}
use Rattle.pd_setup.specs.declared.event.EventKind.TheVariants.{Attach}
use Rattle.pd_scenario_tables.specs.declared.schema.Version.{Version}
use Rattle.pd_scenario_tables.specs.declared.schema.EventName.{EventName}
use Rattle.pd_scenario_tables.specs.declared.schema.EventName.TheVariants as event
use Rattle.pd_scenario_tables.specs.declared.schema.Key.{Key}
use Rattle.pd_scenario_tables.specs.declared.schema.Key.TheVariants as key
use Rattle.pd_scenario_tables.specs.Schema.{text_of}
use Rattle.pd_scenario_tables.specs.Tables.{word_at, event_at}
use Rattle.pd_scenario_text.specs.FileTables.{Tables}
use Rattle.pd_misfits.specs.Values.{quoted}
use Rattle.pd_misfits.specs.Spots.{SpotData}
use Rattle.pd_misfits.specs.Lines.{line, event_spot}
use Rattle.pd_places.specs.Numbered.{numbered}
use Rattle.pd_places.specs.Same.{names_of}

-- the names that there are, each behind a space: eight at most, and how many more
unfoldable pub name_word : List ℕ → List ℕ
name_word name = 32 ∷ quoted name

abbrev pub most_names : ℕ
most_names = 8

unfoldable pub more_names : ℕ → List ℕ
more_names count = if count == 0 then [] else (codes " and " ++ (decimal count ++ codes " more"))

unfoldable pub names_text : List (List ℕ) → List ℕ
names_text names =
    if nat_lt 0 (length names) then flat_map name_word (take most_names names) ++ more_names (length names - most_names)
    else codes " none"

unfoldable pub stranger_words : Key → List (List ℕ) → List ℕ
stranger_words k names = codes ", the name of no " ++ (text_of k ++ (codes "; there are" ++ names_text names))

unfoldable pub stranger_sentence : Key → List (List ℕ) → List ℕ → List ℕ
stranger_sentence k names name = quoted (text_of k) ++ (codes " is " ++ (quoted name ++ stranger_words k names))

-- a name that isn't there, and the first of the names of which it is a slip, where it is one; a name that is empty, or doesn't
-- stand there, is told for another refusal
abbrev pub stranger_part : SpotData → Key → List (List ℕ) → List ℕ → List ℕ
stranger_part spot k names name =
    if nat_lt 0 (length name) && not (list_any (λ other. bytes_eq other name) names)
    then line spot (text_of k) (stranger_sentence k names name) (meant_text (nearest name names))
    else []

unfoldable pub attach_part : SpotData → List (List ℕ) → List (List ℕ) → Members → List ℕ
attach_part spot cables sinks t =
    stranger_part spot key.Cable cables (word_at key.Cable t) ++ stranger_part spot key.Sink sinks (word_at key.Sink t)

abbrev pub kind_part : SpotData → List (List ℕ) → List (List ℕ) → KindWord → Members → List ℕ
kind_part spot cables sinks (Attach cable sink) t = attach_part spot cables sinks t
kind_part spot cables sinks _ t = []

abbrev pub named_part : SpotData → List (List ℕ) → List (List ℕ) → EventName → Members → List ℕ
named_part spot cables sinks (event.OnPort kind) t = kind_part spot cables sinks kind t
named_part spot cables sinks event.Budget t = []
named_part spot cables sinks event.Unknown t = []

abbrev pub event_known_part : SpotData → Version → List (List ℕ) → List (List ℕ) → ℕ → Members → List ℕ
event_known_part spot version cables sinks number t =
    named_part (event_spot spot version number t) cables sinks (event_at version t) t

-- ---- a file

abbrev pub known_text : SpotData → Tables → List ℕ
known_text spot d = numbered (event_known_part spot d.version (names_of d.cables) (names_of d.sinks)) 1 d.events
