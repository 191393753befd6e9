-- The three forms of a sweep, and which of its packets have lines.
use Rattle.std.specs.Prelude.{ℕ, Bool, true, false, not, ◌&&◌, ◌||◌, if◌then◌else◌, List, [], ◌++◌, codes, Option}
use Rattle.pd_sweep.specs.Tallies.{tally_words}
use Rattle.pd_sweep.specs.KindLines.{kind_lines, kind_names}
use Rattle.pd_sweep.specs.Sums.{kinds}
use Rattle.pd_sweep.specs.Words.{makes_difference, trial_line}
use Rattle.pd_sweep.specs.declared.findings.Findings.{Findings}
use Rattle.pd_sweep.specs.declared.sums.Sums.{Sums}
use Rattle.pd_sweep.specs.declared.tally.Tally.{Tally}
use Rattle.pd_sweep.specs.declared.trial.Outcome.{Outcome}
use Rattle.pd_sweep.specs.declared.trial.Outcome.TheVariants.{Ran}
use Rattle.pd_sweep.specs.declared.trial.Trial.{Trial}
use Rattle.pd_sweep.specs.Columns.{tally_object}
use Rattle.pd_sweep.specs.Objects.{trial_object}
use Rattle.pd_sweep.specs.Rows.{first_names, last_names, trial_row}
use Rattle.pd_sweep.specs.declared.form.Form.{Form}
use Rattle.pd_sweep.specs.declared.form.Form.TheVariants.{Words, Json, Csv}
use Rattle.pd_sweep.specs.declared.form.Look.{Look}

-- the names of a row's values: of a packet's, or of a kind's
abbrev pub value_names : Bool → List ℕ
value_names true = kind_names
value_names false = first_names ++ last_names

-- what stands before the first line
abbrev pub head_of : Form → Bool → List ℕ
head_of Words by_message = []
head_of Json by_message = []
head_of Csv by_message = value_names by_message

abbrev pub head : Look → List ℕ
head look = head_of look.form look.by_message

-- a trial
abbrev pub trial_text : Form → Findings → Trial → List ℕ
trial_text Words old trial = trial_line old trial
trial_text Json old trial = trial_object old trial
trial_text Csv old trial = trial_row old trial

-- losing the packet makes a difference
abbrev pub has_difference : Findings → Outcome → Bool
has_difference old (Ran effect) = makes_difference old effect
has_difference old _ = false

-- a trial has a line: each has, or one whose loss makes a difference; none has where kinds of messages are told of in their place
abbrev pub is_shown : Look → Findings → Trial → Bool
is_shown look old trial = not look.by_message && (not look.changed || has_difference old trial.outcome)

-- its line, where it has one
abbrev pub line_of : Look → Findings → Trial → List ℕ
line_of look old trial = if is_shown look old trial then trial_text look.form old trial else []

-- the summary; values have none
abbrev pub tally_text : Form → Option ℕ → Tally → List ℕ
tally_text Words reserve tally = tally_words reserve tally
tally_text Json reserve tally = tally_object reserve tally
tally_text Csv reserve tally = []

-- the kinds of messages, where they are told of
abbrev pub kinds_text : Look → Option ℕ → List Tally → List ℕ
kinds_text look reserve tallies = if look.by_message then kind_lines look reserve kinds tallies else []

-- whether sets of packets are left that weren't tried; values have no place for it
abbrev pub left_text : Form → Bool → List ℕ
left_text Words true = codes "ended at --most; other sets of packets are left\n"
left_text Json true = codes "{\"kind\":\"left\"}\n"
left_text form are_left = []

-- what stands behind the packets: the kinds, the summary, and whether that is all
abbrev pub closing : Look → Option ℕ → Sums → Bool → List ℕ
closing look reserve sums are_left =
    kinds_text look reserve sums.kinds ++ (tally_text look.form reserve sums.all ++ left_text look.form are_left)
