-- What is told of runs with losses by lot, as text: this product's own form, as docs/LAB.md has it under Sweep.
use Rattle.std.specs.Prelude.{ℕ, ◌+◌, ◌-◌, ◌/◌, ◌%◌, ◌==◌, ◌&&◌, not, Bool, true, false, List, [], ◌∷◌, ◌++◌}
use Rattle.std.specs.Prelude.{map, count_by, length, replicate, codes, decimal, slice_index_or, if◌then◌else◌, Option, Some, None}
use Rattle.std.specs.List.{flat_map, range_with_len, sum_by}
use Rattle.pd_sweep.specs.Beside.{no_measure}
use Rattle.pd_sweep.specs.Words.{are_same, extent_of}
use Rattle.pd_sweep.specs.declared.findings.Findings.{Findings}
use Rattle.pd_sweep.specs.declared.measure.Extent.TheVariants as extent
use Rattle.pd_sweep.specs.declared.measure.Measure.{Measure}
use Rattle.pd_noise.specs.Ranks.{spread_of}
use Rattle.pd_noise.specs.Worsts.{hard_resets, least_left, longest, worst_from}
use Rattle.pd_noise.specs.declared.column.Column.{Column}
use Rattle.pd_noise.specs.declared.column.Column.TheVariants.{Less, More, Until, Faults, HardResets, Margin}
use Rattle.pd_noise.specs.declared.noise.Noise.{Noise}
use Rattle.pd_noise.specs.declared.noisy.Noisy.{Noisy}
use Rattle.pd_noise.specs.declared.spread.Spread.{Spread}
use Rattle.pd_noise.specs.declared.worst.Longest.{Longest}
use Rattle.pd_noise.specs.declared.worst.Worst.{Worst}

-- ---- the first line

-- a number of 100,000ths as per cent, with up to three digits behind the point
abbrev pub third_digit : ℕ → List ℕ
third_digit part = if part % 10 == 0 then [] else (48 + part % 10) ∷ []

abbrev pub second_digit : ℕ → List ℕ
second_digit part = if part % 100 == 0 then [] else (48 + part / 10 % 10) ∷ third_digit part

unfoldable pub fraction_words : ℕ → List ℕ
fraction_words part = if part == 0 then [] else 46 ∷ ((48 + part / 100) ∷ second_digit part)

unfoldable pub percent_words : ℕ → List ℕ
percent_words share = decimal (share / 1000) ++ fraction_words (share % 1000)

-- a number behind some words and before others
unfoldable pub between : List ℕ → ℕ → List ℕ → List ℕ
between lead n tail = lead ++ (decimal n ++ tail)

-- a number of things
unfoldable pub counted : ℕ → List ℕ → List ℕ → List ℕ
counted n one several = decimal n ++ (if n == 1 then one else several)

abbrev pub lost_words : ℕ → List ℕ
lost_words n = counted n (codes " packet lost") (codes " packets lost")

-- with which probability, and of which seed
unfoldable pub noise_words : Noise → List ℕ
noise_words noise = codes "each packet lost with " ++ (percent_words noise.share ++ between (codes " %, seed ") noise.seed (codes ": "))

-- the contracts at the end are others than without a loss
abbrev pub ends_otherwise : Findings → Noisy → Bool
ends_otherwise without x = not (are_same without.summary.standing.contracts x.effect.findings.summary.standing.contracts)

unfoldable pub first_line : Noise → Findings → List Noisy → List ℕ
first_line noise without xs =
    counted (length xs) (codes " run, ") (codes " runs, ")
    ++ (noise_words noise ++ (lost_words (sum_by (λ (x : Noisy). x.lost) xs) ++ (codes ", "
    ++ counted (count_by (ends_otherwise without) xs) (codes " run ends with other contracts\n")
    (codes " runs end with other contracts\n"))))

-- ---- the table

abbrev pub measure_on : ℕ → Noisy → Measure
measure_on port x = slice_index_or x.effect.measures port no_measure

-- a measure of a run; the ports are numbered from 0 here
abbrev pub value_of : Column → Noisy → ℕ
value_of (Less port) x = (measure_on port x).less
value_of (More port) x = (measure_on port x).more
value_of (Until port) x = extent_of extent.Until (measure_on port x)
value_of Faults x = x.effect.findings.summary.mishaps.faults
value_of HardResets x = hard_resets x
value_of Margin x = least_left x

-- the names are 21 bytes long
abbrev pub name_of : Column → List ℕ
name_of (Less port) = codes "less power port " ++ (decimal (port + 1) ++ codes "    ")
name_of (More port) = codes "more power port " ++ (decimal (port + 1) ++ codes "    ")
name_of (Until port) = codes "differs until port " ++ (decimal (port + 1) ++ codes " ")
name_of Faults = codes "faults               "
name_of HardResets = codes "hard resets          "
name_of Margin = codes "least margin         "

abbrev pub unit_of : Column → List ℕ
unit_of Faults = codes "\n"
unit_of HardResets = codes "\n"
unit_of Margin = codes " uW\n"
unit_of _ = codes " us\n"

-- a row that is left out where all its numbers are 0
abbrev pub is_of_port : Column → Bool
is_of_port Faults = false
is_of_port HardResets = false
is_of_port Margin = false
is_of_port _ = true

-- right in eleven places
unfoldable pub cell : ℕ → List ℕ
cell n = replicate (11 - length (decimal n)) 32 ++ decimal n

abbrev pub row_words : Column → Spread → List ℕ
row_words column s =
    name_of column ++ (cell s.least ++ (cell s.median ++ (cell s.high ++ (cell s.greatest ++ unit_of column))))

abbrev pub shown_row : Column → Spread → List ℕ
shown_row column s = if is_of_port column && s.greatest == 0 then [] else row_words column s

unfoldable pub row_of : List Noisy → Column → List ℕ
row_of xs column = shown_row column (spread_of (map (value_of column) xs))

abbrev pub port_rows : List Noisy → ℕ → List ℕ
port_rows xs port = row_of xs (Less port) ++ (row_of xs (More port) ++ row_of xs (Until port))

unfoldable pub table : List Noisy → List ℕ
table xs =
    codes "measure                    least     median       95 %   greatest\n"
    ++ (flat_map (port_rows xs) (range_with_len 0 8) ++ (row_of xs Faults ++ (row_of xs HardResets ++ row_of xs Margin)))

-- ---- the worst run

abbrev pub less_words : Longest → List ℕ
less_words l = between (codes ", port ") l.port (codes " less power for ") ++ (decimal l.us ++ codes " us")

unfoldable pub longest_words : Longest → List ℕ
longest_words l = if l.us == 0 then [] else less_words l

abbrev pub worst_run_words : Worst → List ℕ
worst_run_words w =
    between (codes "worst: run ") w.run (codes ", ") ++ (lost_words w.noisy.lost ++ (longest_words (longest w.noisy)
    ++ (between (codes ", hard resets ") (hard_resets w.noisy) (codes ", least margin ") ++ (decimal (least_left w.noisy)
    ++ codes " uW\n"))))

abbrev pub worst_words : Option Worst → List ℕ
worst_words None = []
worst_words (Some w) = worst_run_words w

-- ---- all of it, of the runs from a number on
abbrev pub report_words : Noise → ℕ → Findings → List Noisy → List ℕ
report_words noise run without xs = first_line noise without xs ++ (table xs ++ worst_words (worst_from run None xs))
