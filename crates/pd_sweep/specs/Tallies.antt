-- What all trials come to.
use Rattle.std.specs.Prelude.{ℕ, ◌+◌, ◌-◌, ◌*◌, ◌==◌, nat_lt, Bool, false, if◌then◌else◌, List, [], ◌∷◌, ◌++◌, fold, codes, decimal}
use Rattle.std.specs.Prelude.{Option, Some, None}
use Rattle.pd_report.specs.declared.least.Margin.{Margin}
use Rattle.pd_sweep.specs.Words.{are_same, extent_of, instant_words, makes_difference}
use Rattle.pd_sweep.specs.PacketTexts.{packets_words}
use Rattle.pd_sweep.specs.Sets.{count_of}
use Rattle.pd_sweep.specs.declared.effect.Effect.{Effect}
use Rattle.pd_sweep.specs.declared.findings.Findings.{Findings}
use Rattle.pd_sweep.specs.declared.measure.Extent.{Extent}
use Rattle.pd_sweep.specs.declared.measure.Extent.TheVariants.{Less, Until}
use Rattle.pd_sweep.specs.declared.measure.Measure.{Measure}
use Rattle.pd_sweep.specs.declared.tally.Lowest.{Lowest}
use Rattle.pd_sweep.specs.declared.tally.Tally.{Tally}
use Rattle.pd_sweep.specs.declared.tally.Worst.{Worst}
use Rattle.pd_sweep.specs.declared.tally.WorstOn.{WorstOn}
use Rattle.pd_sweep.specs.declared.sets.Packets.{Packets}
use Rattle.pd_sweep.specs.declared.trial.Outcome.{Outcome}
use Rattle.pd_sweep.specs.declared.trial.Outcome.TheVariants.{Ran, Missed, Disturbed}
use Rattle.pd_sweep.specs.declared.trial.Trial.{Trial}

-- nothing was tried
abbrev pub no_trial : Tally
no_trial = record {
  tried = 0;
  sets = 0;
  different = 0;
  changed = 0;
  less = None;
  until = None;
  faults = None;
  hard_resets = None;
  margin = None;
  short = 0;
}

-- how much the worst so far comes to
abbrev pub so_far : Option Worst → ℕ
so_far None = 0
so_far (Some w) = w.by

-- the first packets of those whose loss makes the most of something
abbrev pub worse : Option Worst → Packets → ℕ → Option Worst
worse best t by = if nat_lt (so_far best) by then Some (record { packets = t; by = by }) else best

-- the same of a port
abbrev pub so_far_on : Option WorstOn → ℕ
so_far_on None = 0
so_far_on (Some w) = w.by

abbrev pub worse_on : Option WorstOn → Packets → ℕ → ℕ → Option WorstOn
worse_on best t port by = if nat_lt (so_far_on best) by then Some (record { packets = t; port = port; by = by }) else best

-- the first packet, and the first port, of those that make the most of one of the measures; these are the measures of a packet's run,
-- of the ports from one on
abbrev pub worst_of : Extent → Option WorstOn → Packets → ℕ → List Measure → Option WorstOn
worst_of extent best t port [] = best
worst_of extent best t port (m ∷ ms) = worst_of extent (worse_on best t port (extent_of extent m)) t (port + 1) ms

-- the least that is left so far, without a loss or with one
abbrev pub least_so_far : Margin → Option Lowest → ℕ
least_so_far without None = without.left
least_so_far without (Some l) = l.margin.left

-- the first packet of those whose loss leaves the least, where that is less than is left without a loss
abbrev pub lower : Margin → Option Lowest → Packets → Findings → Option Lowest
lower without lowest t new =
    if nat_lt new.margin.left (least_so_far without lowest) then Some (record { packets = t; margin = new.margin; makers = new.makers })
    else lowest

-- less is left than so many milliwatts, where that is asked
abbrev pub is_short : Option ℕ → Margin → Bool
is_short None margin = false
is_short (Some mw) margin = nat_lt margin.left (mw * 1000)

-- one more packet was lost: what there is more of than without the loss counts, and what is left less
abbrev pub counted : Option ℕ → Findings → Tally → Packets → Effect → Tally
counted reserve old tally t effect = record {
  tried = tally.tried + 1;
  sets = (if nat_lt 1 (count_of t) then tally.sets + 1 else tally.sets);
  different = (if makes_difference old effect then tally.different + 1 else tally.different);
  changed =
      (if are_same old.summary.standing.contracts effect.findings.summary.standing.contracts then tally.changed else tally.changed + 1);
  less = worst_of Less tally.less t 1 effect.measures;
  until = worst_of Until tally.until t 1 effect.measures;
  faults = worse tally.faults t (effect.findings.summary.mishaps.faults - old.summary.mishaps.faults);
  hard_resets = worse tally.hard_resets t (effect.findings.summary.mishaps.hard_resets - old.summary.mishaps.hard_resets);
  margin = lower old.margin tally.margin t effect.findings;
  short = (if is_short reserve effect.findings.margin then tally.short + 1 else tally.short);
}

abbrev pub noted_outcome : Option ℕ → Findings → Tally → Packets → Outcome → Tally
noted_outcome reserve old tally t (Ran effect) = counted reserve old tally t effect
noted_outcome reserve old tally t Missed = tally
noted_outcome reserve old tally t Disturbed = tally

abbrev pub noted_trial : Option ℕ → Findings → Tally → Trial → Tally
noted_trial reserve old tally trial = noted_outcome reserve old tally trial.packets trial.outcome

-- the tally of trials beside the run without a loss
abbrev pub tally_of : Option ℕ → Findings → List Trial → Tally
tally_of reserve old trials = fold (noted_trial reserve old) no_trial trials

-- ---- as text

-- a column's worst
abbrev pub worst_words : Option Worst → List ℕ
worst_words None = codes "none\n"
worst_words (Some w) = 43 ∷ (decimal w.by ++ (codes ", " ++ (packets_words w.packets ++ codes "\n")))

abbrev pub column_words : List ℕ → Option Worst → List ℕ
column_words name worst = name ++ worst_words worst

-- that of a measure of a port, behind some words and before others
abbrev pub on_port_words : List ℕ → List ℕ → WorstOn → List ℕ
on_port_words lead unit w =
    lead ++ (decimal w.by ++ (unit ++ (codes " on port " ++ (decimal w.port ++ (codes ", " ++ (packets_words w.packets ++ codes "\n"))))))

abbrev pub worst_on_words : List ℕ → List ℕ → Option WorstOn → List ℕ
worst_on_words lead unit None = codes "none\n"
worst_on_words lead unit (Some w) = on_port_words lead unit w

abbrev pub measure_column : List ℕ → List ℕ → List ℕ → Option WorstOn → List ℕ
measure_column name lead unit worst = name ++ worst_on_words lead unit worst

-- how many packets were tried, lost or damaged alone, and how many sets of more than one, where any was
abbrev pub packets_noun : ℕ → List ℕ
packets_noun count = if count == 1 then codes " packet" else codes " packets"

abbrev pub alone_words : ℕ → List ℕ
alone_words count = decimal count ++ packets_noun count

unfoldable pub sets_noun : ℕ → List ℕ
sets_noun sets = if sets == 1 then codes " set of packets" else codes " sets of packets"

abbrev pub and_sets : ℕ → List ℕ
and_sets sets = codes " and " ++ (decimal sets ++ sets_noun sets)

abbrev pub sets_words : ℕ → List ℕ
sets_words sets = if sets == 0 then [] else and_sets sets

abbrev pub tried_words : Tally → List ℕ
tried_words tally = alone_words (tally.tried - tally.sets) ++ (sets_words tally.sets ++ codes " tried, ")

abbrev pub counts_words : Tally → List ℕ
counts_words tally =
    tried_words tally ++ (decimal tally.different ++ (codes " with a difference, "
    ++ (decimal tally.changed ++ codes " with other contracts at the end\n")))

-- the least that a loss leaves, when, and by which ports
abbrev pub low_words : Lowest → List ℕ
low_words l =
    decimal l.margin.left ++ (instant_words l.margin.at l.makers ++ (codes ", " ++ (packets_words l.packets ++ codes "\n")))

abbrev pub lowest_words : Option Lowest → List ℕ
lowest_words None = codes "none\n"
lowest_words (Some l) = low_words l

abbrev pub lowest_line : Option Lowest → List ℕ
lowest_line lowest = codes "least margin: " ++ lowest_words lowest

-- the columns of which there may be more than without a loss
unfoldable pub columns_words : Tally → List ℕ
columns_words tally =
    measure_column (codes "longest less power: ") [] (codes " us") tally.less
    ++ (measure_column (codes "latest difference: ") (codes "until ") [] tally.until
    ++ (column_words (codes "most faults: ") tally.faults ++ column_words (codes "most hard resets: ") tally.hard_resets))

-- in how many runs less is left than so many milliwatts, where that is asked
abbrev pub less_words : ℕ → ℕ → List ℕ
less_words mw short = decimal short ++ (codes " left less than " ++ (decimal mw ++ codes " mW\n"))

abbrev pub short_words : Option ℕ → ℕ → List ℕ
short_words None short = []
short_words (Some mw) short = less_words mw short

-- the summary
unfoldable pub tally_words : Option ℕ → Tally → List ℕ
tally_words reserve tally =
    counts_words tally ++ (columns_words tally ++ (lowest_line tally.margin ++ short_words reserve tally.short))
