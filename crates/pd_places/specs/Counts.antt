-- Refusal 11: more tables, or fewer, than there may be.
use Rattle.std.specs.Prelude.{ℕ, ◌||◌, nat_lt, List, [], ◌∷◌, ◌++◌, length, codes, decimal, if◌then◌else◌}
use Rattle.pd_scenario.specs.Limits.{most_ports, most_names, most_events}
use Rattle.pd_scenario_text.specs.FileTables.{Tables}
use Rattle.pd_misfits.specs.Spots.{SpotData}
use Rattle.pd_misfits.specs.Lines.{line}

unfoldable pub count_sentence : List ℕ → ℕ → ℕ → ℕ → List ℕ
count_sentence noun low high count =
    codes "there are " ++ (decimal count ++ (32 ∷ (noun ++ (codes ", not " ++ (decimal low ++ (codes " to " ++ decimal high))))))

abbrev pub count_part : SpotData → List ℕ → ℕ → ℕ → ℕ → List ℕ
count_part spot noun low high count =
    if nat_lt count low || nat_lt high count then line spot [] (count_sentence noun low high count) [] else []

-- ---- a file

unfoldable pub counts_text : SpotData → Tables → List ℕ
counts_text spot d =
    count_part spot (codes "ports") 1 most_ports (length d.ports)
    ++ (count_part spot (codes "cables") 0 most_names (length d.cables)
    ++ (count_part spot (codes "sinks") 0 most_names (length d.sinks)
    ++ count_part spot (codes "events") 0 most_events (length d.events)))
