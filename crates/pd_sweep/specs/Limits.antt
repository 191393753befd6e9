-- Which limits the runs of a sweep pass.
use Rattle.std.specs.Prelude.{◌≡◌, ℕ, ◌==◌, ◌&&◌, nat_lt, not, Bool, true, false, if◌then◌else◌, List, [], ◌++◌, codes, decimal}
use Rattle.std.specs.Prelude.{Option, Some, None, is_none, is_some}
use Rattle.std.specs.List.{list_any}
use Rattle.pd_sweep.specs.PacketTexts.{packets_name}
use Rattle.pd_sweep.specs.Tallies.{tally_of}
use Rattle.pd_sweep.specs.Words.{are_same}
use Rattle.pd_sweep.specs.declared.choice.Loss.{Loss}
use Rattle.pd_sweep.specs.declared.choice.Loss.TheVariants.{Damaged, Lost}
use Rattle.pd_sweep.specs.declared.effect.Effect.{Effect}
use Rattle.pd_sweep.specs.declared.findings.Findings.{Findings}
use Rattle.pd_sweep.specs.declared.limits.Limits.{Limits}
use Rattle.pd_sweep.specs.declared.limits.Passed.{Passed}
use Rattle.pd_sweep.specs.declared.sets.Packets.{Packets}
use Rattle.pd_sweep.specs.declared.sets.Packets.TheVariants.{One}
use Rattle.pd_sweep.specs.declared.tally.Tally.{Tally}
use Rattle.pd_sweep.specs.declared.tally.Worst.{Worst}
use Rattle.pd_sweep.specs.declared.tally.WorstOn.{WorstOn}
use Rattle.pd_sweep.specs.declared.trial.Outcome.{Outcome}
use Rattle.pd_sweep.specs.declared.trial.Outcome.TheVariants.{Ran}
use Rattle.pd_sweep.specs.declared.trial.Trial.{Trial}

-- ---- what a run does

-- its contracts at the end are others than without the loss
abbrev pub ends_otherwise : Findings → Effect → Bool
ends_otherwise old effect = not (are_same old.summary.standing.contracts effect.findings.summary.standing.contracts)

-- it has more Hard Resets than the one without a loss
abbrev pub has_more_resets : Findings → Effect → Bool
has_more_resets old effect = nat_lt old.summary.mishaps.hard_resets effect.findings.summary.mishaps.hard_resets

-- a port has less power in it than without the loss for longer than so many microseconds
abbrev pub lacks_power : ℕ → Effect → Bool
lacks_power us effect = list_any (λ m. nat_lt us m.less) effect.measures

-- a trial has a run that does it
abbrev pub has_run : (Effect → Bool) → Outcome → Bool
has_run does (Ran effect) = does effect
has_run does _ = false

abbrev pub some_run : (Effect → Bool) → List Trial → Bool
some_run does trials = list_any (λ (trial : Trial). has_run does trial.outcome) trials

-- ---- the limits that are passed, by the summary of the trials

-- by so many runs that end with other contracts
abbrev pub runs_over : Bool → ℕ → Option ℕ
runs_over limit runs = if limit && nat_lt 0 runs then Some runs else None

-- by the most Hard Resets
abbrev pub resets_over : Bool → Option Worst → Option Worst
resets_over true worst = worst
resets_over false worst = None

-- by the longest time of less power
abbrev pub longer_than : ℕ → Option WorstOn → Option WorstOn
longer_than us None = None
longer_than us (Some w) = if nat_lt us w.by then Some w else None

abbrev pub power_over : Option ℕ → Option WorstOn → Option WorstOn
power_over None worst = None
power_over (Some us) worst = longer_than us worst

abbrev pub passed_of : Limits → Tally → Passed
passed_of limits tally = record {
  other_contracts = runs_over limits.other_contracts tally.changed;
  hard_resets = resets_over limits.hard_resets tally.hard_resets;
  less_power = power_over limits.less_power tally.less;
}

abbrev pub is_none_passed : Passed → Bool
is_none_passed passed = is_none passed.other_contracts && (is_none passed.hard_resets && is_none passed.less_power)

-- A limit is passed exactly where a run of the sweep passes it.
abbrev pub power_passed : Option ℕ → List Trial → Bool
power_passed None trials = false
power_passed (Some us) trials = some_run (lacks_power us) trials

pub record ArePassed (limits : Limits) (old : Findings) (trials : List Trial) (passed : Passed) : Type 0 where
  pub other_contracts : is_some passed.other_contracts ≡ (limits.other_contracts && some_run (ends_otherwise old) trials)
  pub hard_resets : is_some passed.hard_resets ≡ (limits.hard_resets && some_run (has_more_resets old) trials)
  pub less_power : is_some passed.less_power ≡ power_passed limits.less_power trials

abbrev pub LimitsAreOfRuns : Type 0
LimitsAreOfRuns =
    (limits : Limits) (reserve : Option ℕ) (old : Findings) (trials : List Trial)
    → ArePassed limits old trials (passed_of limits (tally_of reserve old trials))

-- ---- as text: a line for each limit that is passed

-- the run in which they are harmed
abbrev pub verb_words : Packets → List ℕ
verb_words (One a) = codes " is"
verb_words _ = codes " are"

abbrev pub harm_words : Loss → List ℕ
harm_words Lost = codes " lost\n"
harm_words Damaged = codes " damaged\n"

unfoldable pub where_words : Loss → Packets → List ℕ
where_words loss ps = codes " where " ++ (packets_name ps ++ (verb_words ps ++ harm_words loss))

-- what begins a line: a name, and the limit
unfoldable pub limit_lead : List ℕ → List ℕ → List ℕ
limit_lead name limit = name ++ (codes ": --fail-on " ++ (limit ++ codes ": "))

abbrev pub runs_words : ℕ → List ℕ
runs_words runs =
    if runs == 1 then codes "1 run ends with other contracts\n" else decimal runs ++ codes " runs end with other contracts\n"

abbrev pub runs_line : List ℕ → Option ℕ → List ℕ
runs_line name None = []
runs_line name (Some runs) = limit_lead name (codes "other-contracts") ++ runs_words runs

abbrev pub resets_words : Loss → Worst → List ℕ
resets_words loss w = decimal w.by ++ (codes " more" ++ where_words loss w.packets)

abbrev pub resets_line : List ℕ → Loss → Option Worst → List ℕ
resets_line name harm None = []
resets_line name harm (Some w) = limit_lead name (codes "hard-resets") ++ resets_words harm w

abbrev pub power_words : Loss → WorstOn → List ℕ
power_words loss w =
    codes "port " ++ (decimal w.port ++ (codes " has less power for " ++ (decimal w.by ++ (codes " us" ++ where_words loss w.packets))))

abbrev pub power_line : List ℕ → Loss → Option WorstOn → List ℕ
power_line name harm None = []
power_line name harm (Some w) = limit_lead name (codes "less-power") ++ power_words harm w

abbrev pub passed_lines : List ℕ → Loss → Passed → List ℕ
passed_lines name loss passed =
    runs_line name passed.other_contracts ++ (resets_line name loss passed.hard_resets ++ power_line name loss passed.less_power)
