-- Refusal 7: names and ids that stand at an earlier table of the same kind.
use Rattle.std.specs.Prelude.{ℕ, ◌+◌, ◌==◌, nat_lt, List, [], ◌∷◌, ◌++◌, length, map, codes, decimal, bytes_eq, Option, None, Some}
use Rattle.std.specs.Prelude.{if◌then◌else◌}
use Rattle.std.specs.List.{position_from}
use Rattle.toml.specs.Data.{Members}
use Rattle.pd_scenario_tables.specs.declared.schema.Key.{Key}
use Rattle.pd_scenario_tables.specs.declared.schema.Key.TheVariants as key
use Rattle.pd_scenario_tables.specs.Schema.{text_of, any_event}
use Rattle.pd_scenario_tables.specs.Tables.{number_at, word_at}
use Rattle.pd_scenario_text.specs.FileTables.{Tables}
use Rattle.pd_misfits.specs.Values.{quoted}
use Rattle.pd_misfits.specs.Spots.{SpotData}
use Rattle.pd_misfits.specs.Lines.{line, table_spot}
use Rattle.pd_places.specs.Numbered.{numbered}

-- the value at a key, and the number of the first table that has it
unfoldable pub same_sentence : Key → List ℕ → List ℕ → ℕ → List ℕ
same_sentence k value word first =
    quoted (text_of k) ++ (codes " is " ++ (value ++ (codes ", as of " ++ (word ++ 32 ∷ decimal first))))

-- told of a table where so many stand before the first that has its value, and that is another
abbrev pub same_part : SpotData → List ℕ → Key → List ℕ → ℕ → Option ℕ → List ℕ
same_part spot word k value number None = []
same_part spot word k value number (Some before) =
    if nat_lt (before + 1) number then line (table_spot spot word number) (text_of k) (same_sentence k value word (before + 1)) [] else []

-- ---- names; one that is empty, or doesn't stand there, is told for another refusal

abbrev pub first_name : List (List ℕ) → List ℕ → Option ℕ
first_name names name = position_from (λ other. bytes_eq other name) 0 names

abbrev pub same_name_part : SpotData → List ℕ → List (List ℕ) → ℕ → List ℕ → List ℕ
same_name_part spot word names number name =
    if nat_lt 0 (length name) then same_part spot word key.Name (quoted name) number (first_name names name) else []

abbrev pub same_names_text : SpotData → List ℕ → List (List ℕ) → List ℕ
same_names_text spot word names = numbered (same_name_part spot word names) 1 names

-- ---- ids; one that is 0, or doesn't stand there, is told for another refusal

abbrev pub first_id : List ℕ → ℕ → Option ℕ
first_id ids id = position_from (λ other. other == id) 0 ids

abbrev pub same_id_part : SpotData → List ℕ → ℕ → ℕ → List ℕ
same_id_part spot ids number id =
    if nat_lt 0 id then same_part spot (codes "event") key.Id (decimal id) number (first_id ids id) else []

abbrev pub same_ids_text : SpotData → List ℕ → List ℕ
same_ids_text spot ids = numbered (same_id_part spot ids) 1 ids

-- ---- a file

abbrev pub names_of : List Members → List (List ℕ)
names_of ts = map (word_at key.Name) ts

abbrev pub ids_of : List Members → List ℕ
ids_of ts = map (number_at any_event key.Id) ts

unfoldable pub same_text : SpotData → Tables → List ℕ
same_text spot d =
    same_names_text spot (codes "cable") (names_of d.cables)
    ++ (same_names_text spot (codes "sink") (names_of d.sinks) ++ same_ids_text spot (ids_of d.events))
